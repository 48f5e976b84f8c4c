-- A pass that has seen nothing.
use Rattle.std.proofs.Common.{◌≡◌, ℕ, ap, ◌∙◌}
use Rattle.std.specs.Prelude.{[]}
use Rattle.acdm_milestones.specs.declared.role.Role.{Role}
use Rattle.acdm_row.specs.Views.{PassView, RowView}
use Rattle.acdm_sessions.specs.Sessions.{new_pass}

pub is_new : (p : PassView) (row : RowView) (number : ℕ) (role : Role) → p.row ≡ row
    → p.session ≡ number → p.role ≡ role → p.seen ≡ [] → p.numbers ≡ [] → p.own ≡ []
    → p ≡ new_pass row number role
is_new p row number role on session in_role seen numbers own =
    ap (λ r. record p { row = r }) on
    ∙ ap (λ n. record p { row = row; session = n }) session
    ∙ ap (λ r. record p { row = row; session = number; role = r }) in_role
    ∙ ap (λ es. record p { row = row; session = number; role = role; seen = es }) seen
    ∙ ap (λ ks. record p { row = row; session = number; role = role; seen = []; numbers = ks })
    numbers
    ∙ ap (λ es. record (new_pass row number role) { own = es }) own
