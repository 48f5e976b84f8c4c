-- Those who are sent the same stay told what was seen.
use Rattle.std.proofs.Common.{◌≡◌, ◌+◌, ℕ, List, [], ◌∷◌, ◌++◌, sym, ap, subst, ◌∙◌, append_assoc, append-nil}
use Rattle.std.proofs.Common.{◌-◌, drop, drop-drop, le_of_eq, length, length-drop, take}
use Rattle.std.proofs.Common.{Err, Ok, OnOk, Result, false, is_err}
use Rattle.std.proofs.lemmas.List.{take-append-drop, take_all}
use Rattle.acdm_step.specs.declared.entry.Entry.{Entry}
use Rattle.acdm_displays.specs.declared.asked.Start.{Start}
use Rattle.acdm_displays.specs.Displayed.{Adds, Begun, Telling}
use Rattle.acdm_displays.specs.Viewing.{AreTold, Each, IsHanded, IsTold, ViewerView}

-- one among some has what each has
among : (P : ViewerView → Type 0) (front back : List ViewerView) (v : ViewerView) → Each P (front ++ v ∷ back) → P v
among P [] back v (p, rest) = p
among P (w ∷ front) back v (p, rest) = among P front back v rest

-- each of those that were handed a text has what follows from what each of those had
handed_all : (P Q : ViewerView → Type 0) (list after : List ViewerView) (text : List ℕ) → Each P list
    → ((v w : ViewerView) → w.start ≡ v.start → w.waits ≡ false
    → w.log ++ w.waiting ≡ (v.log ++ v.waiting) ++ text → P v → Q w)
    → Each (IsHanded list text) after → Each Q after
handed_all P Q list [] text all step each = tt
handed_all P Q list (w ∷ after) text all step (h, rest) = (
  step h.viewer w h.start h.flushed h.handed (among P h.front h.back h.viewer (subst (λ l. Each P l) h.among all)),
  handed_all P Q list after text all step rest,
)

-- what was told of the entries that came was handed to each
pub told_more : {T : Type 0} (tells : Telling T) (begun : Start → Begun → Type 0) (room : ℕ) (teller later_teller : T)
    (seen later : List Entry) (list after : List ViewerView) (text : List ℕ)
    → Adds tells teller later_teller seen later [] text → AreTold tells begun room teller seen list
    → Each (IsHanded list text) after → AreTold tells begun room later_teller later after
told_more tells begun room teller later_teller seen later list after text adds told handed = record {
  known = (
    told.known.0,
    told.known.1 ++ text,
    told.known.2,
    adds told.known.1 told.known.0
        (subst (λ l. tells teller seen told.known.0 l) (sym (append-nil told.known.1)) told.known.3),
  );
  each = handed_all (IsTold tells begun room teller seen) (IsTold tells begun room later_teller later) list after text told.each
      (λ v w same flushed is t. (
        t.0,
        subst (λ s. begun s t.0) (sym same) t.1,
        t.2,
        flushed,
        subst (λ l. tells later_teller later t.0 l) (sym is)
            (adds (v.log ++ v.waiting) t.0
            (subst (λ l. tells teller seen t.0 l) (sym (append-nil (v.log ++ v.waiting))) t.4)),
      )) handed;
}

-- nothing was handed to them
pub told_still : {T : Type 0} (tells : Telling T) (begun : Start → Begun → Type 0) (room : ℕ) (teller : T)
    (seen : List Entry) (list after : List ViewerView) → AreTold tells begun room teller seen list
    → Each (IsHanded list []) after → AreTold tells begun room teller seen after
told_still tells begun room teller seen list after told handed = record {
  known = told.known;
  each = handed_all (IsTold tells begun room teller seen) (IsTold tells begun room teller seen) list after [] told.each
      (λ v w same flushed is t. (
        t.0,
        subst (λ s. begun s t.0) (sym same) t.1,
        t.2,
        flushed,
        subst (λ l. tells teller seen t.0 l) (sym (is ∙ append-nil (v.log ++ v.waiting))) t.4,
      )) handed;
}

all_behind : (P : ViewerView → Type 0) (list : List ViewerView) (v : ViewerView) → Each P list → P v
    → Each P (list ++ v ∷ [])
all_behind P [] v all p = (p, tt)
all_behind P (w ∷ list) v (q, rest) p = (q, all_behind P list v rest p)

-- one more is told what the others are
pub told_one : {T : Type 0} (tells : Telling T) (begun : Start → Begun → Type 0) (room : ℕ) (teller : T)
    (seen : List Entry) (list after : List ViewerView) (v : ViewerView) → AreTold tells begun room teller seen list
    → IsTold tells begun room teller seen v → after ≡ list ++ v ∷ [] → AreTold tells begun room teller seen after
told_one tells begun room teller seen list after v told one is = record {
  known = told.known;
  each = subst (λ l. Each (IsTold tells begun room teller seen) l) (sym is) (all_behind (IsTold tells begun room teller seen) list v told.each one);
}

-- one more was taken from the end of those that are left, and kept
pub kept_one : (list left rest kept after : List ViewerView) (v w : ViewerView) (text : List ℕ)
    → list ≡ (left ++ v ∷ []) ++ rest → w.start ≡ v.start → w.waits ≡ false → w.log ++ w.waiting ≡ (v.log ++ v.waiting) ++ text
    → Each (IsHanded list text) kept → after ≡ kept ++ w ∷ [] → Each (IsHanded list text) after
kept_one list left rest kept after v w text split same flushed is all added =
    subst (λ l. Each (IsHanded list text) l) (sym added) (all_behind (IsHanded list text) kept w all (record {
      front = left;
      viewer = v;
      back = rest;
      among = split ∙ append_assoc left (v ∷ []) rest;
      start = same;
      flushed = flushed;
      handed = is;
    }))

-- what a call says where it went well
pub of_ok : {X E P : Type 0} (r : Result X E) → is_err r ≡ false → OnOk r P → P
of_ok (Ok x) well p = p
of_ok (Err e) well p = absurd (cc)

-- some of what waits was sent
pub sent_some : (log new items bytes : List ℕ) (at n : ℕ)
    → new ≡ log ++ take n (take (length bytes - at) (drop at bytes)) → bytes ≡ items
    → new ++ drop (at + n) items ≡ log ++ drop at items
sent_some log new items bytes at n is same =
    ap (λ l. l ++ drop (at + n) items) (is ∙ ap (λ b. log ++ take n (take (length b - at) (drop at b))) same
    ∙ ap (λ l. log ++ take n l) (take_all (length items - at) (drop at items)
    (le_of_eq (length-drop at items))))
    ∙ append_assoc log (take n (drop at items)) (drop (at + n) items)
    ∙ ap (λ l. log ++ (take n (drop at items) ++ l)) (sym (drop-drop n at items))
    ∙ ap (λ l. log ++ l) (take-append-drop n (drop at items))

-- the head and what comes first were handed to one for whom nothing waited
pub joined : (head text log waiting h s v1 v2 : List ℕ) → v1 ≡ (log ++ waiting) ++ h → log ≡ [] → waiting ≡ []
    → h ≡ head → v2 ≡ v1 ++ s → s ≡ text → v2 ≡ head ++ text
joined head text log waiting h s v1 v2 first none empty is second text_is =
    second ∙ ap (λ l. l ++ s) (first ∙ ap (λ l. (l ++ waiting) ++ h) none ∙ ap (λ l. l ++ h) empty ∙ is)
    ∙ ap (λ l. head ++ l) text_is
