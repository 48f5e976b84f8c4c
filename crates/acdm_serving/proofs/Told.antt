-- What is told of listeners and of sessions, one after the other.
use Rattle.std.proofs.Common.{◌≡◌, ℕ, suc, ◌+◌, List, [], ◌∷◌, ◌++◌, length, map, sym, ap}
use Rattle.std.proofs.Common.{OnOk, false, ◌∙◌, append_assoc, append-nil, arith, subst, length-append}
use Rattle.std.proofs.lemmas.List.{map-append}
use Rattle.acdm_milestones.specs.declared.role.Role.{Role}
use Rattle.acdm_lines.specs.Counted.{SinkView}
use Rattle.acdm_wire.specs.Writes.{Writes, Wrote}
use Rattle.acdm_wire.proofs.Writing.{wrote-both, writes-both}
use Rattle.acdm_serving.specs.Partners.{Announces, Telling, TellsPartners, closed_text, listen_text, listens_text}

-- the lines of listeners, and that of one more
pub one_listener : (n : ℕ) (ps : List (Role × List ℕ)) (role : Role) (address : List ℕ)
    → listens_text n (ps ++ (role, address) ∷ [])
    ≡ listens_text n ps ++ listen_text (n + length ps) role address
one_listener n [] role address =
    let same : n ≡ n + 0 = omega arith in
    append-nil (listen_text n role address) ∙ ap (λ k. listen_text k role address) same
one_listener n (p ∷ ps) role address =
    let next : (n + 1) + length ps ≡ n + suc (length ps) = omega arith in
    ap (λ t. listen_text n p.0 p.1 ++ t) (one_listener (n + 1) ps role address
    ∙ ap (λ k. listens_text (n + 1) ps ++ listen_text k role address) next)
    ∙ sym (append_assoc (listen_text n p.0 p.1) (listens_text (n + 1) ps)
    (listen_text (n + suc (length ps)) role address))

-- the line of one listener more was written
pub announced_more : {W : Type 0} (old mid new : SinkView W) (ps : List (Role × List ℕ)) (n : ℕ)
    (role : Role) (address : List ℕ) → n ≡ 1 + length ps → Wrote old mid (listens_text 1 ps)
    → Wrote mid new (listen_text n role address)
    → Wrote old new (listens_text 1 (ps ++ (role, address) ∷ []))
announced_more old mid new ps n role address count sofar next =
    subst (λ t. Wrote old new t)
    (ap (λ k. listens_text 1 ps ++ listen_text k role address) count
    ∙ sym (one_listener 1 ps role address))
    (wrote-both old mid new (listens_text 1 ps) (listen_text n role address) sofar next)

pub count_more : {X : Type 0} (xs : List X) (x : X) (n : ℕ) → n ≡ 1 + length xs
    → n + 1 ≡ 1 + length (xs ++ x ∷ [])
count_more xs x n count = ap (λ k. k + 1) count ∙ rw (length-append xs (x ∷ [])) (omega arith)

pub roles_more : {P : Type 0} (role : P → Role) (ps : List (Role × List ℕ)) (address : List ℕ) (p : P)
    (rest more : List P) (all : List Role) → map (λ q. q.0) ps ++ map role rest ≡ all → rest ≡ p ∷ more
    → map (λ q. q.0) (ps ++ (role p, address) ∷ []) ++ map role more ≡ all
roles_more role ps address p rest more all whole next =
    ap (λ rs. rs ++ map role more) (map-append (λ q. q.0) ps ((role p, address) ∷ []))
    ∙ append_assoc (map (λ q. q.0) ps) (role p ∷ []) (map role more)
    ∙ ap (λ xs. map (λ q. q.0) ps ++ map role xs) (sym next)
    ∙ whole

-- the lines of listeners were written, and it was told how partners ended, or that failed
pub told_partners : {W : Type 0} (roles : List Role) (sessions : List ℕ) (entries : ℕ)
    (old mid new : SinkView W) (said : Telling) → Announces roles old mid
    → Writes mid new (sessions ++ closed_text entries) said → OnOk said (new.waits ≡ false)
    → TellsPartners roles sessions entries old new said
told_partners roles sessions entries old mid new said a wrote flushed = record {
  listeners = a.listeners;
  roles_are = a.roles_are;
  wrote = writes-both old mid new (listens_text 1 a.listeners) (sessions ++ closed_text entries) said
      a.wrote wrote;
  flushed = flushed;
}
