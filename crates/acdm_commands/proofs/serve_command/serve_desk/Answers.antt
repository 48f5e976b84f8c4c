use Rattle.std.proofs.Common.{Err, Ok, inl, inr, is_some, subst, ◌∙◌}
use Rattle.acdm_commands.specs.Keeping.{ServesLed}
use Rattle.acdm_commands.specs.Partners.{named_of}
use Rattle.acdm_commands.proofs.Told.{led_saved, led_stopped, led_unkept, led_unsaved, unkept_by}
use Rattle.acdm_commands.proofs.serve_command.serve_desk.Goals as goal

pub returns-in_default : goal.returns-in_default
returns-in_default g c = led_stopped _ _ _ _ _ _ _ (inl (inr (inl tt)))

pub returns-in-Err : goal.returns-in-Err
returns-in-Err g c = led_stopped _ _ _ _ _ _ _ (inl (inr (inr (inr c.in-Err.ensures))))

pub returns-in-Err-share : goal.returns-in-Err-share
returns-in-Err-share g c = led_stopped _ _ _ _ _ _ _ (inl (inr (inl tt)))

pub returns-in-Err-opened : goal.returns-in-Err-opened
returns-in-Err-opened g c = led_stopped _ _ _ _ _ _ _ (inl c.in-Err-opened.ensures.fails)

pub returns-in-Err-served : goal.returns-in-Err-served
returns-in-Err-served g c = led_stopped _ _ _ _ _ _ _ c.in-Err-served.ensures.fails

pub returns-in-Err-kept : goal.returns-in-Err-kept
returns-in-Err-kept g c =
    subst (λ k. ServesLed k c.args.begun.desk (named_of c.args.request.now) c.args.output.now
    c.serve_led-served.new.output c.args.saved.now c.args.saved.now (Err c.of_keeping.result)) (c.as_ref.ensures.variant ∙ c.in-Ok-share.ensures.shared)
    (led_unkept (is_some c.as_ref.result) c.args.begun.desk (named_of c.args.request.now) c.args.output.now
    c.serve_led-served.new.output c.args.saved.now c.args.saved.now c.in-Ok-served.served.0.history c.in-Ok-served.served.1
    c.in-Ok-served.ensures.serves c.of_keeping.result
    (c.as_ref.ensures.variant ∙ (rw c.in-Err-kept.is at c.keep_rest-keeper.ensures.kept))
    (rw c.of_keeping.ensures (unkept_by c.in-Err-kept.failure (rw c.in-Err-kept.is at c.keep_rest-keeper.ensures.fails))))

pub returns-in-Ok-came : goal.returns-in-Ok-came
returns-in-Ok-came g c =
    subst (λ k. ServesLed k c.args.begun.desk (named_of c.args.request.now) c.args.output.now
    c.serve_led-served.new.output c.args.saved.now c.save_served-came.new.saved (Ok 0)) (c.as_ref.ensures.variant ∙ c.in-Ok-share.ensures.shared)
    (led_saved (is_some c.as_ref.result) c.args.begun.desk (named_of c.args.request.now) c.args.output.now
    c.serve_led-served.new.output c.args.saved.now c.save_served-came.new.saved c.in-Ok-served.served.0.history c.in-Ok-served.served.1
    c.in-Ok-served.ensures.serves c.in-Ok-came.ensures)

pub returns : goal.returns
returns g c =
    subst (λ k. ServesLed k c.args.begun.desk (named_of c.args.request.now) c.args.output.now
    c.serve_led-served.new.output c.args.saved.now c.save_served-came.new.saved (Err c.in-Err-came.failure)) (c.as_ref.ensures.variant ∙ c.in-Ok-share.ensures.shared)
    (led_unsaved (is_some c.as_ref.result) c.args.begun.desk (named_of c.args.request.now) c.args.output.now
    c.serve_led-served.new.output c.args.saved.now c.save_served-came.new.saved c.in-Ok-served.served.0.history c.in-Ok-served.served.1
    c.in-Ok-served.ensures.serves c.in-Err-came.failure c.in-Err-came.ensures)
