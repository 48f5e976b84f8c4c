-- A line with one token more.
use Rattle.std.proofs.Common.{◌≡◌, ℕ, ◌+◌, ◌/◌, ◌%◌, ◌≤◌, ◌<◌, decimal, Bool, true, false, cond, ◌&&◌, ◌||◌, ◌==◌, nat_lt, List, [], ◌∷◌, ◌++◌, length, take, drop, subst, refl, sym, ap, ◌∙◌, arith, length-append, append_assoc, append-nil, take-append-drop}
use Rattle.std.proofs.lemmas.List.{take-append-le, drop-append-le, drop_all}
use Rattle.std.proofs.lemmas.Bool.{or_parts, not-true, eqb-false, ltb-false}
use Rattle.std.proofs.lemmas.Fmt.{decimal_digit, decimal_step}
use Rattle.std.proofs.lemmas.Slice.Eq.{bytes_eq-Decides}
use Rattle.std.specs.List.{list_all}
use Rattle.std.specs.Str.{bytes_eq}
use Rattle.std.specs.Cmp.{first_so, second_so}
use Rattle.json.specs.Token.{Token, key, string}
use Rattle.json.specs.Lex.{tokens, lex, punctuate}
use Rattle.json.specs.Print.{print, print_from, escape, escape_byte, separator, token_text, begins, ends, ends_value, IsPrintable, ArePrintable}
use Rattle.json.specs.Run.{is_plain, is_stop}
use Rattle.json.proofs.Printed.Tokens.{tokens-print, print_from_push, ends_push, ArePrintable-push}
use Rattle.json.proofs.Printed.Strings.{escape_byte_plain}
use Rattle.acdm_feed.specs.Lineviews.{is_key, name_in}
use Rattle.acdm_feed.specs.Lines.{added, added_text, line_view, IsLine}
use Rattle.acdm_feed.specs.declared.line.FeedLine.TheInside.{Inside}

-- ---- texts that need no escape

bytes_same : (a b : List ℕ) → bytes_eq a b ≡ true → a ≡ b
bytes_same a b h = (bytes_eq-Decides a b).0 h

plain_byte : (x : ℕ) → is_plain x ≡ true → escape_byte x ≡ x ∷ []
plain_byte x h =
    let none = or_parts ((x == 34) || (x == 92)) (nat_lt x 32) (not-true (is_stop x) h) in
    let more = or_parts (x == 34) (x == 92) none.0 in
    escape_byte_plain x (eqb-false x 34 more.0) (eqb-false x 92 more.1) (ltb-false x 32 none.1)

pub plain_escape : (s : List ℕ) → list_all is_plain s ≡ true → escape s ≡ s
plain_escape [] h = refl
plain_escape (x ∷ xs) h =
    λ i. plain_byte x (first_so _ _ h) i ++ plain_escape xs (second_so _ _ h) i

pub key_text : (k : List ℕ) → is_key k ≡ true → k ≡ token_text (key (name_in k))
key_text k h =
    bytes_same k _ (first_so _ _ h)
    ∙ ap (λ s. 34 ∷ (s ++ 34 ∷ 58 ∷ [])) (sym (plain_escape (name_in k) (second_so _ _ h)))
    ∙ sym (ap (λ l. 34 ∷ l) (append_assoc (escape (name_in k)) (34 ∷ []) (58 ∷ [])))

pub two_decimal : (n : ℕ) → 10 ≤ n → n < 100 → decimal n ≡ (48 + n / 10) ∷ (48 + n % 10) ∷ []
two_decimal n low high =
    decimal_step n low (omega arith) ∙ ap (λ l. l ++ (48 + n % 10) ∷ []) (decimal_digit (n / 10) (omega arith))

-- ---- no token

pub none_added : (l : Inside) → l.kept ≡ length l.out.items → added l ≡ []
unfolding lex punctuate
none_added l h = ap tokens (drop_all l.kept l.out.items (omega (arith, h)))

pub none_line : (l : Inside) → l.after_value ≡ false → l.kept ≡ length l.out.items → IsLine l
unfolding print_from ArePrintable
none_line l after h = record {
  within = omega (arith, h);
  printable = subst ArePrintable (sym (none_added l h)) tt;
  text = drop_all l.kept l.out.items (omega (arith, h)) ∙ sym (ap print (none_added l h));
  place = after ∙ sym (ap ends_value (none_added l h));
}

-- ---- one token more

module _ (w v : Inside) (h : IsLine w) (t : Token) (printable : IsPrintable t) (comma : Bool)
    (is : comma ≡ (w.after_value && begins t)) (piece : List ℕ) (text : piece ≡ token_text t)
    (kept : v.kept ≡ w.kept) (after : v.after_value ≡ ends t)
    (items : v.out.items ≡ w.out.items ++ (cond comma (44 ∷ []) [] ++ piece)) where
  more : added_text v ≡ print (added w ++ t ∷ [])
  more =
      (λ i. drop (kept i) (items i))
      ∙ drop-append-le w.kept w.out.items _ h.within
      ∙ (λ i. h.text i ++ (cond (is i) (44 ∷ []) [] ++ text i))
      ∙ ap (λ b. print (added w) ++ (separator b t ++ token_text t)) h.place
      ∙ sym (print_from_push false (added w) t)

  pub adds_token : added v ≡ added w ++ t ∷ []
  adds_token =
      ap tokens more ∙ tokens-print (added w ++ t ∷ []) (ArePrintable-push (added w) t h.printable printable)

  pub stays_before : take v.kept v.out.items ≡ take w.kept w.out.items
  stays_before = (λ i. take (kept i) (items i)) ∙ take-append-le w.kept w.out.items _ h.within

  pub is_line : IsLine v
  is_line =
      let all = cond comma (44 ∷ []) [] ++ piece in
      record {
        within = omega (arith, h.within, kept, ap length items, length-append w.out.items all);
        printable = subst ArePrintable (sym adds_token) (ArePrintable-push (added w) t h.printable printable);
        text = more ∙ ap print (sym adds_token);
        place = after ∙ sym (ends_push false (added w) t) ∙ ap ends_value (sym adds_token);
      }

-- ---- texts that a writer made

pub print_string : (s : List ℕ) (ts : List Token) → ts ≡ [] ++ string s ∷ [] → print ts ≡ 34 ∷ (escape s ++ 34 ∷ [])
unfolding print_from
print_string s ts h = ap print h ∙ append-nil (34 ∷ (escape s ++ 34 ∷ []))

-- ---- the end of a line

pub ended : (l : Inside) → IsLine l → (whole : List ℕ) → whole ≡ l.out.items ++ ([] ++ 10 ∷ [])
    → whole ≡ (line_view l).before ++ (print (line_view l).tokens ++ 10 ∷ [])
ended l h whole is =
    is ∙ ap (λ s. s ++ 10 ∷ []) (sym (take-append-drop l.kept l.out.items))
    ∙ append_assoc (take l.kept l.out.items) (added_text l) (10 ∷ [])
    ∙ ap (λ s. take l.kept l.out.items ++ (s ++ 10 ∷ [])) h.text
