use Rattle.std.proofs.Common.{◌≡◌, IfSome, is_some, option_map, refl, subst}
use Rattle.acdm_sessions.specs.Sessions.{session_told}
use Rattle.acdm_serving.specs.Partners.{starts_of}
use Rattle.acdm_commands.specs.Minutes.{is_minute}
use Rattle.acdm_commands.specs.Partners.{IsNamedBy, named_of}
use Rattle.acdm_commands.proofs.Ticks.{serves_once}
use Rattle.acdm_commands.proofs.Told.{comes_served, serves_partners}
use Rattle.acdm_commands.proofs.serve_command.serve_led.Goals as goal

pub returns-then-is_served_once-clause-serves : goal.returns-then-is_served_once-clause-serves
returns-then-is_served_once-clause-serves g c =
    let done = c.in-Ok-serve_partners.ensures in
    let served = c.in-Ok-serve_partners.served in
    let partners = c.in-Some.partners in
    let named = named_of c.args.request.now in
    comes_served (is_some c.args.led.operation.keeper) c.args.led.desk c.in-Ok.led.desk named partners
    c.args.output.now c.serve_partners.new.writer served.told served.desk.history c.in-Ok.ensures.led
    (subst (λ o. IfSome o (IsNamedBy named)) c.in-Some.is c.in-Ok.ensures.named)
    (serves_once (λ _. is_minute) (λ t. t.clock) partners.listeners.items partners.ticks
    (c.is_served_once.ensures c.if-is_served_once.true) c.in-Ok.led.desk _ c.args.output.now
    c.serve_partners.new.writer served.told (λ J. J ≡ served.desk.history)
    (serves_partners (λ e. session_told e.number e.role e.calls e.end e.torn e.reader e.writer e.pass)
    served.sessions.items _ served.desk _ _ c.args.output.now c.serve_partners.new.writer done.serves
    served.told done.tells (λ J. J ≡ served.desk.history) refl))

pub returns-clause-serves : goal.returns-clause-serves
returns-clause-serves g c =
    let done = c.in-Ok-served.ensures in
    let served = c.in-Ok-served.served in
    let partners = c.in-Some.partners in
    let named = named_of c.args.request.now in
    comes_served (is_some c.args.led.operation.keeper) c.args.led.desk c.in-Ok.led.desk named partners
    c.args.output.now c.serve_reconnecting-served.new.writer served.told served.desk.history c.in-Ok.ensures.led
    (subst (λ o. IfSome o (IsNamedBy named)) c.in-Some.is c.in-Ok.ensures.named)
    (serves_partners (λ e. session_told e.number e.role e.calls e.end e.torn e.reader e.writer e.pass)
    served.sessions.items _ served.desk _
    (starts_of (λ _. is_minute) partners.listeners.items (option_map (λ t. t.clock) partners.ticks))
    c.args.output.now c.serve_reconnecting-served.new.writer done.serves
    served.told done.tells (λ J. J ≡ served.desk.history) refl)
