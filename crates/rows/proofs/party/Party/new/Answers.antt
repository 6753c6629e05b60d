use Rattle.std.proofs.Common.{ap}
use Rattle.rows.specs.declared.party.GivenAmounts.{GivenAmounts}
use Rattle.rows.proofs.Equal.{both, given, lists}
use Rattle.rows.proofs.party.Party.new.Goals as goal

pub returns-clause-same_given : goal.returns-clause-same_given
returns-clause-same_given c = (
  λ a b.
      let d = both (lists given a.pass_through b.pass_through) (both (lists given a.cc_6474 b.cc_6474) (lists given a.cc_6475 b.cc_6475)) in
      (λ h. let p = d.0 h in λ i. record { pass_through = p.0 i; cc_6474 = p.1.0 i; cc_6475 = p.1.1 i }, λ e. d.1 (ap (λ (x : GivenAmounts). x.pass_through) e, (ap (λ (x : GivenAmounts). x.cc_6474) e, ap (λ (x : GivenAmounts). x.cc_6475) e))),
  λ a b h. h,
)
