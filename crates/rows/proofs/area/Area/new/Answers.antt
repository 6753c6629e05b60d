use Rattle.std.proofs.Common.{ap, refl}
use Rattle.rows.specs.Ranges.{most_energy, most_price}
use Rattle.rows.specs.declared.area.Election.{Election}
use Rattle.rows.specs.declared.area.SufficiencyTest.{SufficiencyTest}
use Rattle.rows.specs.declared.area.Transfer.{Transfer}
use Rattle.rows.specs.Rows.{no_election}
use Rattle.rows.specs.Posts.{election_in_range, election_record, test_in_range, test_record, transfer_in_range, transfer_record}
use Rattle.rows.proofs.Equal.{both, cap, flags, power, unsigned}
use Rattle.rows.proofs.Unposted.{zero_from_0}
use Rattle.rows.proofs.area.Area.new.Goals as goal

pub returns-clause-election : goal.returns-clause-election
unfolding election_in_range election_record no_election
returns-clause-election c = λ p h.
    rw (h.0, h.1.0, h.1.1.0, h.1.1.1, zero_from_0 1, zero_from_0 most_price, zero_from_0 most_energy) (refl, refl)

pub returns-clause-test : goal.returns-clause-test
unfolding test_in_range test_record
returns-clause-test c = λ p h. rw (h.0, h.1.0, h.1.1, zero_from_0 most_energy) (refl, refl)

pub returns-clause-transfer : goal.returns-clause-transfer
unfolding transfer_in_range transfer_record
returns-clause-transfer c = λ p h. rw (h.0, h.1.0, h.1.1.0, h.1.1.1, zero_from_0 most_energy) (refl, refl)

pub returns-clause-same_election : goal.returns-clause-same_election
returns-clause-same_election c = (
  λ a b.
      let d = both (flags a.opted_in b.opted_in) (both (cap a.cap b.cap) (both (power a.up b.up) (power a.nopay b.nopay))) in
      (λ h. let p = d.0 h in λ i. record { opted_in = p.0 i; cap = p.1.0 i; up = p.1.1.0 i; nopay = p.1.1.1 i }, λ e. d.1 (ap (λ (x : Election). x.opted_in) e, (ap (λ (x : Election). x.cap) e, (ap (λ (x : Election). x.up) e, ap (λ (x : Election). x.nopay) e)))),
  λ a b h. h,
)

pub returns-clause-same_test : goal.returns-clause-same_test
returns-clause-same_test c = (
  λ a b.
      let d = both (power a.capacity b.capacity) (both (power a.ramp b.ramp) (power a.nopay b.nopay)) in
      (λ h. let p = d.0 h in λ i. record { capacity = p.0 i; ramp = p.1.0 i; nopay = p.1.1 i }, λ e. d.1 (ap (λ (x : SufficiencyTest). x.capacity) e, (ap (λ (x : SufficiencyTest). x.ramp) e, ap (λ (x : SufficiencyTest). x.nopay) e))),
  λ a b h. h,
)

pub returns-clause-same_transfer : goal.returns-clause-same_transfer
returns-clause-same_transfer c = (
  λ a b.
      let d = both (unsigned a.to b.to) (both (unsigned a.base_to b.base_to) (both (unsigned a.from b.from) (unsigned a.base_from b.base_from))) in
      (λ h. let p = d.0 h in λ i. record { to = p.0 i; base_to = p.1.0 i; from = p.1.1.0 i; base_from = p.1.1.1 i }, λ e. d.1 (ap (λ (x : Transfer). x.to) e, (ap (λ (x : Transfer). x.base_to) e, (ap (λ (x : Transfer). x.from) e, ap (λ (x : Transfer). x.base_from) e)))),
  λ a b h. h,
)
