use Rattle.std.proofs.Common.{rules, ◌≡◌}
use borrow.Author.Tests.{tests}
use Rattle.tables.proofs.refusal.Reason.number.Goals as goal

pub returns-clause-refusals : goal.returns-clause-refusals
returns-clause-refusals c = (
  λ a b. (
    λ h.
        let reason : a.reason ≡ b.reason = search (rules, tests) in
        let part : a.part ≡ b.part = search (rules, tests) in
        let interval : a.place.interval ≡ b.place.interval = search (rules, tests) in
        let id : a.place.id ≡ b.place.id = search (rules, tests) in
        λ i. record { reason = reason i; part = part i; place = record { interval = interval i; id = id i } },
    λ e. search (rules, tests),
  ),
  λ a b h. h,
)
