-- From the members of a plain object to what serde_json reads of the text.
use Rattle.std.proofs.Common.{◌≡◌, ℕ, suc, ◌+◌, ◌-◌, ◌<◌, ◌≤◌, Bool, true, false, List, [], ◌∷◌, ◌++◌}
use Rattle.std.proofs.Common.{length, take, slice_index_or, Option, Some, None, option_map, option_and_then, refl, sym, ap, ap₂, ◌∙◌, subst, arith}
use Rattle.std.specs.Str.{bytes_eq}
use Rattle.std.proofs.lemmas.Bool.{eqb-true}
use Rattle.std.proofs.lemmas.Slice.Eq.{bytes_eq-Decides}
use Rattle.acdm_wire.proofs.Json.{not_both}
use Rattle.std.proofs.lemmas.List.{take_more}
use Rattle.std.specs.Prelude.{◌==◌}
use Rattle.json.specs.Token.{Token}
use Rattle.json.specs.Json as json
use Rattle.json.specs.Json.{Parse, parse_map, read_key, members, value, if_last}
use Rattle.json.specs.Lex.{Lexeme, token, comma, colon, Place, fresh, after_value, after_comma, after_key}
use Rattle.json.specs.Lex.{begins_colon, may_begin, between, lex, punctuate, tokens}
use Rattle.json.proofs.Grammar.{members_end, members_more, value-begin_object, value_is}
use Rattle.serde_json.specs.Data.{Data, object, Members, no_members, put}
use Rattle.serde_json.specs.Read.{of_json, of_members, converted, read}
use Rattle.serde_json.specs.Find.{get_member}
use Rattle.serde_json.proofs.Views.{get_member-put, get_member-put_other}
use Rattle.acdm_wire.specs.declared.plain.PlainMember.{PlainMember}
use Rattle.acdm_wire.specs.Plain.{IsScalar, BeginsMember, Completes, value_data, with_members}

-- ---- the conversion of what was read

abbrev right : {A B : Type 0} → (b : B) → Option (A × B) → B
right b None = b
right b (Some p) = p.1

abbrev only : {A B : Type 0} → Option (A × B) → Option A
only None = None
only (Some p) = Some p.0

found : {B : Type 0} (r s : List Token) (x : Option B) (b : B)
    → option_map {U = B × List Token} (λ y. (y, r)) x ≡ Some (b, s) → (r ≡ s) × (x ≡ Some b)
found r s None b e = absurd (cc)
found r s (Some y) b e = (ap (right r) e, ap only e)

converted_some : {A B : Type 0} (f : A → Option B) (o : Option (A × List Token)) (b : B) (r : List Token)
    → converted f o ≡ Some (b, r) → (a : A) × (o ≡ Some (a, r)) × (f a ≡ Some b)
converted_some f None b r e = absurd (cc)
converted_some f (Some p) b r e =
    let both = found p.1 r (f p.0) b e in
    (p.0, ap (λ s. Some (p.0, s)) both.0, both.1)

twice : {A B : Type 0} (g : A → B) (r : List Token) (x : Option A)
    → option_map (λ b. (b, r)) (option_map g x) ≡ parse_map g (option_map (λ a. (a, r)) x)
twice g r None = refl
twice g r (Some a) = refl

converted-object : (o : Option (json.Members × List Token))
    → converted of_json (parse_map json.object o) ≡ parse_map object (converted (λ ms. of_members ms no_members) o)
converted-object None = refl
converted-object (Some p) = twice object p.1 (of_members p.0 no_members)

with_member : (k : List ℕ) (j : json.Json) (d : Data) (old : Members) → of_json j ≡ Some d
    → (o : Option (json.Members × List Token))
    → converted (λ ms. of_members ms old) (parse_map (json.member k j) o)
    ≡ converted (λ ms. of_members ms (put k d old)) o
with_member k j d old e None = refl
with_member k j d old e (Some p) = rw e

module _ (p : Parse json.Json) (old : Members) where
  member_read : (n : ℕ) (k : List ℕ) (ts s r : List Token) (d : Data) → 0 < n → read_key ts ≡ Some (Some k, s)
      → converted of_json (p s) ≡ Some (d, r)
      → converted (λ ms. of_members ms old) (members p n ts)
      ≡ converted (λ ms. of_members ms (put k d old)) (members p (n - 1) r)
  member_read n k ts s r d some key e =
      let j = converted_some of_json (p s) d r e in
      ap (converted (λ ms. of_members ms old)) (members_more p n k ts s r j.0 some key j.1)
      ∙ with_member k j.0 d old j.2 _

  members_over : (n : ℕ) (ts r : List Token) → length ts ≤ n → read_key ts ≡ Some (None, r)
      → converted (λ ms. of_members ms old) (members p n ts) ≡ Some (old, r)
  members_over n ts r enough e = ap (converted (λ ms. of_members ms old)) (members_end p n ts r enough e)

-- ---- values of one token

scalar_value : (depth : ℕ) (t : Token) (d : Data) (ts : List Token) → IsScalar t d
    → converted of_json (value depth (t ∷ ts)) ≡ Some (d, ts)
scalar_value depth Token.begin_object d ts h = absurd h
scalar_value depth Token.end_object d ts h = absurd h
scalar_value depth Token.begin_array d ts h = absurd h
scalar_value depth Token.end_array d ts h = absurd h
scalar_value depth (Token.key s) d ts h = absurd h
scalar_value depth (Token.string s) d ts h = ap (converted of_json) (value_is depth _) ∙ rw h
scalar_value depth (Token.number s) d ts h = ap (converted of_json) (value_is depth _) ∙ rw (h.1, h.2)
scalar_value depth (Token.boolean b) d ts h = absurd h
scalar_value depth Token.null d ts h = ap (converted of_json) (value_is depth _) ∙ rw h
scalar_value depth Token.bad d ts h = absurd h

scalar_placed : (t : Token) (d : Data) (ls : List Lexeme) → IsScalar t d → begins_colon ls ≡ false
    → punctuate fresh (token t ∷ ls) ≡ t ∷ punctuate after_value ls
unfolding punctuate
scalar_placed Token.begin_object d ls h apart = absurd h
scalar_placed Token.end_object d ls h apart = absurd h
scalar_placed Token.begin_array d ls h apart = absurd h
scalar_placed Token.end_array d ls h apart = absurd h
scalar_placed (Token.key s) d ls h apart = absurd h
scalar_placed (Token.string s) d ls h apart = rw apart
scalar_placed (Token.number s) d ls h apart = refl
scalar_placed (Token.boolean b) d ls h apart = absurd h
scalar_placed Token.null d ls h apart = refl
scalar_placed Token.bad d ls h apart = absurd h

key_placed : (p : Place) (k : List ℕ) (ls : List Lexeme) → may_begin p ≡ true
    → punctuate p (token (Token.string k) ∷ colon ∷ ls) ≡ Token.key k ∷ punctuate fresh ls
unfolding punctuate
key_placed fresh k ls h = refl
key_placed after_value k ls h = absurd (cc)
key_placed after_comma k ls h = refl
key_placed after_key k ls h = absurd (cc)

-- ---- members

member_placed : (p : Place) (bs new : List ℕ) (k : List ℕ) (t : Token) (d : Data) → may_begin p ≡ true
    → lex between bs ≡ token (Token.string k) ∷ colon ∷ token t ∷ lex between new → IsScalar t d
    → begins_colon (lex between new) ≡ false
    → punctuate p (lex between bs) ≡ Token.key k ∷ t ∷ punctuate after_value (lex between new)
member_placed p bs new k t d may e h apart =
    ap (punctuate p) e ∙ key_placed p k _ may ∙ ap (λ ts. Token.key k ∷ ts) (scalar_placed t d _ h apart)

at_comma : (bs : List ℕ) → lex between (44 ∷ bs) ≡ comma ∷ lex between bs
unfolding lex
at_comma bs = refl

at_brace : lex between (125 ∷ []) ≡ token Token.end_object ∷ []
unfolding lex
at_brace = refl

after_mark : (ls : List Lexeme) → punctuate after_value (comma ∷ ls) ≡ punctuate after_comma ls
unfolding punctuate
after_mark ls = refl

at_last : punctuate after_value (token Token.end_object ∷ []) ≡ Token.end_object ∷ []
unfolding punctuate
at_last = refl

abbrev parsed : Members → ℕ → List Token → Option (Members × List Token)
parsed before n ts = converted (λ js. of_members js before) (members (value 126) n ts)

fewer : (k t : Token) (ts us : List Token) (n : ℕ) → us ≡ k ∷ t ∷ ts → length us ≤ n → (0 < n) × (length ts ≤ n - 1)
fewer k t ts us n e le = let same : length us ≡ suc (suc (length ts)) = ap length e in (omega arith, omega arith)

one_member : (n : ℕ) (us ts : List Token) (k : List ℕ) (t : Token) (d : Data) (before : Members)
    → us ≡ Token.key k ∷ t ∷ ts → 0 < n → IsScalar t d → parsed before n us ≡ parsed (put k d before) (n - 1) ts
one_member n us ts k t d before e some h =
    ap (parsed before n) e ∙ member_read (value 126) before n k (Token.key k ∷ t ∷ ts) (t ∷ ts) ts d some refl
    (scalar_value 126 t d ts h)

-- a member that a comma follows, and then the others
pub member_more : (bs k rest : List ℕ) (d : Data) (before ms : Members) → BeginsMember bs k d (44 ∷ rest)
    → Completes rest (put k d before) ms → Completes bs before ms
member_more bs k rest d before ms m more = λ p n may le.
    let placed : punctuate p (lex between bs) ≡ Token.key k ∷ m.0 ∷ punctuate after_comma (lex between rest) =
    member_placed p bs (44 ∷ rest) k m.0 d may m.1 m.2 (ap begins_colon (at_comma rest))
    ∙ ap (λ ts. Token.key k ∷ m.0 ∷ ts) (ap (punctuate after_value) (at_comma rest) ∙ after_mark (lex between rest)) in
    let room = fewer _ _ _ _ n placed le in
    one_member n _ _ k m.0 d before placed room.0 m.2 ∙ more after_comma (n - 1) refl room.1

-- a member that the closing brace follows, where the text ends
pub member_last : (bs k : List ℕ) (d : Data) (before : Members) → BeginsMember bs k d (125 ∷ [])
    → Completes bs before (put k d before)
member_last bs k d before m = λ p n may le.
    let placed : punctuate p (lex between bs) ≡ Token.key k ∷ m.0 ∷ Token.end_object ∷ [] =
    member_placed p bs (125 ∷ []) k m.0 d may m.1 m.2 (ap begins_colon at_brace)
    ∙ ap (λ ts. Token.key k ∷ m.0 ∷ ts) (ap (punctuate after_value) at_brace ∙ at_last) in
    let room = fewer _ _ _ _ n placed le in
    one_member n _ _ k m.0 d before placed room.0 m.2
    ∙ members_over (value 126) (put k d before) (n - 1) (Token.end_object ∷ []) [] room.1 refl

-- ---- the whole text

abbrev whole : Option (json.Json × List Token) → Option Data
whole o = option_and_then of_json (option_and_then (λ p. if_last p.0 p.1) o)

whole_read : (o : Option (json.Json × List Token)) (d : Data) → converted of_json o ≡ Some (d, []) → whole o ≡ Some d
whole_read o d e = let j = converted_some of_json o d [] e in ap whole j.1 ∙ j.2

at_open : (bs : List ℕ) → tokens (123 ∷ bs) ≡ Token.begin_object ∷ punctuate fresh (lex between bs)
unfolding lex punctuate
at_open bs = refl

pub object_read : (bs : List ℕ) (ms : Members) → Completes bs no_members ms → read (123 ∷ bs) ≡ Some (object ms)
object_read bs ms done =
    let ts = punctuate fresh (lex between bs) in
    let inside : converted of_json (value 127 (Token.begin_object ∷ ts)) ≡ Some (object ms, []) =
    ap (converted of_json) (value-begin_object 127 ts (omega arith))
    ∙ converted-object (members (value 126) (length ts) ts)
    ∙ ap (parse_map object) (done fresh (length ts) refl (omega arith)) in
    ap (λ us. whole (value 127 us)) (at_open bs) ∙ whole_read (value 127 (Token.begin_object ∷ ts)) (object ms) inside

-- ---- what was kept

pub with_last : (xs : List PlainMember) (m : PlainMember) (ms : Members)
    → with_members (xs ++ m ∷ []) ms ≡ put m.name.now (value_data m.value) (with_members xs ms)
with_last [] m ms = refl
with_last (x ∷ xs) m ms = with_last xs m _

nothing : (xs : List ℕ) → (length xs == 0) ≡ true → xs ≡ []
nothing [] e = refl
nothing (x ∷ xs) e = absurd (omega (arith, eqb-true (length (x ∷ xs)) 0 e))

module _ (start : Members) (bs behind : List ℕ) (mark : ℕ) (tail : List ℕ) (m : PlainMember) (xs ys : List PlainMember)
    (member : BeginsMember bs m.name.now (value_data m.value) behind) (is : behind ≡ mark ∷ tail) (pushed : ys ≡ xs ++ m ∷ []) where
  kept : with_members ys start ≡ put m.name.now (value_data m.value) (with_members xs start)
  kept = ap (λ zs. with_members zs start) pushed ∙ with_last xs m start

  pub more_turn : mark ≡ 44 → (ms : Members) → Completes tail (with_members ys start) ms
      → Completes bs (with_members xs start) ms
  more_turn e ms rest =
      member_more bs m.name.now tail (value_data m.value) (with_members xs start) ms
      (subst (BeginsMember bs m.name.now (value_data m.value)) (is ∙ ap (λ b. b ∷ tail) e) member)
      (subst (λ before. Completes tail before ms) kept rest)

  pub last_turn : mark ≡ 125 → (length tail == 0) ≡ true
      → Completes bs (with_members xs start) (with_members ys start)
  last_turn e empty =
      subst (Completes bs (with_members xs start)) (sym kept)
      (member_last bs m.name.now (value_data m.value) (with_members xs start)
      (subst (BeginsMember bs m.name.now (value_data m.value)) (is ∙ ap₂ (λ b t. b ∷ t) e (nothing tail empty)) member))

-- from the opening brace, with none found before
pub text_read : (old : List PlainMember) (bs text : List ℕ) (ms : Members) → old ≡ [] → text ≡ 123 ∷ bs
    → Completes bs (with_members old no_members) ms → read text ≡ Some (object ms)
text_read old bs text ms none e done =
    ap read e ∙ object_read bs ms (subst (λ xs. Completes bs (with_members xs no_members) ms) none done)

-- ---- the last member of a name

module _ (name : List ℕ) (xs ys : List PlainMember) (m : PlainMember) (is : ys ≡ xs ++ m ∷ []) where
  under : get_member name (with_members ys no_members) ≡ get_member name (put m.name.now (value_data m.value) (with_members xs no_members))
  under = ap (λ zs. get_member name (with_members zs no_members)) is ∙ ap (get_member name) (with_last xs m no_members)

  pub last_here : m.name.now ≡ name → get_member name (with_members ys no_members) ≡ Some (value_data m.value)
  last_here e =
      under ∙ ap (λ k. get_member name (put k (value_data m.value) (with_members xs no_members))) e
      ∙ get_member-put name (value_data m.value) (with_members xs no_members)

  pub last_other : (name ≡ m.name.now → ⊥) → get_member name (with_members ys no_members) ≡ get_member name (with_members xs no_members)
  last_other apart = under ∙ get_member-put_other name m.name.now (value_data m.value) (with_members xs no_members) apart

-- the front of so many members, and the last of them
pub front_is : (members : List PlainMember) (n : ℕ) (d : PlainMember) → 0 < n → n ≤ length members
    → take n members ≡ take (n - 1) members ++ slice_index_or members (n - 1) d ∷ []
front_is members n d some inside =
    let e : n ≡ n - 1 + 1 = omega arith in
    ap (λ k. take k members) e ∙ take_more members (n - 1) d (omega arith)

module _ (name : List ℕ) (members : List PlainMember) (n : ℕ) (d : PlainMember) (same : Bool) (some : 0 < n)
    (inside : n ≤ length members) (is : same ≡ bytes_eq (slice_index_or members (n - 1) d).name.now name) where
  pub found_here : same ≡ true → get_member name (with_members (take n members) no_members)
      ≡ Some (value_data (slice_index_or members (n - 1) d).value)
  found_here e =
      last_here name (take (n - 1) members) (take n members) _ (front_is members n d some inside)
      ((bytes_eq-Decides _ name).0 (sym is ∙ e))

  pub passed_over : same ≡ false → get_member name (with_members (take n members) no_members)
      ≡ get_member name (with_members (take (n - 1) members) no_members)
  passed_over e =
      last_other name (take (n - 1) members) (take n members) _ (front_is members n d some inside)
      (λ (h : name ≡ (slice_index_or members (n - 1) d).name.now). not_both same (is ∙ (bytes_eq-Decides _ name).1 (sym h)) e)
