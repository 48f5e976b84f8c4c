use Rattle.std.proofs.Common.{◌≡◌, ◌∙◌, ◌++◌, ◌+◌, ◌-◌, sym, ap, map, take, drop, length, string_bytes, append_assoc}
use Rattle.std.proofs.Math.Seq.{take-length}
use Rattle.std.proofs.lemmas.List.{take-map, drop-map, length-drop}
use Rattle.acdm_settings.proofs.place.with_settings.Goals as goal

pub returns : goal.returns
returns c =
    let words = c.args.words.now in
    let end = c.args.before + 2 in
    let settings = map (λ s. string_bytes s) c.args.settings.items in
    let behind = drop end (map (λ w. w.now) words) in
    c.in_ok-whole.ensures
    ∙ ap (λ l. map (λ s. string_bytes s) c.in_ok-more.more.items ++ map (λ w. w.now) l)
    (ap (λ n. take n (drop end words)) (sym (length-drop end words)) ∙ take-length (drop end words))
    ∙ ap (λ l. map (λ s. string_bytes s) c.in_ok-more.more.items ++ l) (sym (drop-map (λ w. w.now) end words))
    ∙ ap (λ l. l ++ behind) (c.in_ok-more.ensures
    ∙ ap (λ l. l ++ settings) (c.in_ok-front.ensures
    ∙ ap (λ l. map (λ s. string_bytes s) l ++ map (λ w. w.now) (take c.args.before words)) c.new.ensures.items
    ∙ sym (take-map (λ w. w.now) c.args.before words)))
    ∙ append_assoc _ settings behind
