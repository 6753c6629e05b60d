use Rattle.std.proofs.Common.{rules, ◌≡◌, ap, refl}
use borrow.Author.Tests.{tests}
use Rattle.deemed.proofs.NoTag.{tag_of_zeros}
use denote.Enum.Bare.{sameb}
use Rattle.std.specs.Bool.{Decides}
use Rattle.std.proofs.lemmas.Bool.Decides.{Decides-int_eq}
use Rattle.deemed.specs.declared.tag.Tag.{Tag}
use Rattle.rows.specs.contracts.dispatch.DispatchType.{the_type}
use Rattle.rows.specs.declared.dispatch.DispatchType.{DispatchType}
use Rattle.rows.specs.declared.resource.EnergyRecord.{EnergyRecord}
use Rattle.rows.specs.Ranges.{most_energy, most_price}
use Rattle.rows.specs.Posts.{prices_in_range, energies_in_range, special_energies_in_range, energy_in_range, energy_record, tag_in_range, tag_record}
use Rattle.rows.proofs.Equal.{both, energy, flags, options, price, same_tag}
use Rattle.rows.proofs.Unposted.{zero_either_way, zero_from_0}
use Rattle.rows.proofs.resource.Resource.new.Goals as goal

pub returns-clause-energy : goal.returns-clause-energy
unfolding prices_in_range energies_in_range special_energies_in_range energy_in_range energy_record
returns-clause-energy c = λ p h.
    let iie = h.1.1.1.1 in
    let above = iie.1.1.1.1 in
    rw (
      h.0,
      h.1.0,
      h.1.1.0,
      h.1.1.1.0,
      iie.0,
      iie.1.0,
      iie.1.1.0,
      iie.1.1.1.0,
      above.0,
      above.1.0,
      above.1.1.0,
      above.1.1.1,
      zero_either_way most_price,
      zero_either_way most_energy,
      zero_from_0 1,
    ) (refl, refl)

pub returns-clause-tag : goal.returns-clause-tag
unfolding tag_in_range tag_record
returns-clause-tag c = λ p h. rw (h.0, h.1.0, h.1.1, zero_from_0 1) (refl, tag_of_zeros)

types : (a b : DispatchType) → Decides (sameb the_type a b) (a ≡ b)
types a b = (λ h. search (rules, tests), λ e. search (rules, tests))

pub returns-clause-same_energy : goal.returns-clause-same_energy
returns-clause-same_energy c = (
  λ a b.
      let d = both (price a.lmp b.lmp) (both (price a.mss b.mss) (both (price a.resprice b.resprice) (both (price a.edprice b.edprice) (both (energy a.iie b.iie) (both (energy a.oa b.oa) (both (energy a.mssiie b.mssiie) (both (energy a.res b.res) (both (energy a.above b.above) (both (energy a.edqty b.edqty) (both (flags a.resflag b.resflag) (options types a.ed b.ed))))))))))) in
      (λ h. let p = d.0 h in λ i. record { lmp = p.0 i; mss = p.1.0 i; resprice = p.1.1.0 i; edprice = p.1.1.1.0 i; iie = p.1.1.1.1.0 i; oa = p.1.1.1.1.1.0 i; mssiie = p.1.1.1.1.1.1.0 i; res = p.1.1.1.1.1.1.1.0 i; above = p.1.1.1.1.1.1.1.1.0 i; edqty = p.1.1.1.1.1.1.1.1.1.0 i; resflag = p.1.1.1.1.1.1.1.1.1.1.0 i; ed = p.1.1.1.1.1.1.1.1.1.1.1 i }, λ e. d.1 (ap (λ (x : EnergyRecord). x.lmp) e, (ap (λ (x : EnergyRecord). x.mss) e, (ap (λ (x : EnergyRecord). x.resprice) e, (ap (λ (x : EnergyRecord). x.edprice) e, (ap (λ (x : EnergyRecord). x.iie) e, (ap (λ (x : EnergyRecord). x.oa) e, (ap (λ (x : EnergyRecord). x.mssiie) e, (ap (λ (x : EnergyRecord). x.res) e, (ap (λ (x : EnergyRecord). x.above) e, (ap (λ (x : EnergyRecord). x.edqty) e, (ap (λ (x : EnergyRecord). x.resflag) e, ap (λ (x : EnergyRecord). x.ed) e)))))))))))),
  λ a b h. h,
)

pub returns-clause-same_tag : goal.returns-clause-same_tag
returns-clause-same_tag c = (
  λ a b.
      let d = both (Decides-int_eq a.kw.0 b.kw.0) (both (Decides-int_eq a.telemetry.0 b.telemetry.0) (flags a.curtailed b.curtailed)) in
      (λ h. let p = d.0 h in same_tag a b p.0 p.1.0 p.1.1, λ e. d.1 (ap (λ (x : Tag). x.kw.0) e, (ap (λ (x : Tag). x.telemetry.0) e, ap (λ (x : Tag). x.curtailed) e))),
  λ a b h. h,
)
