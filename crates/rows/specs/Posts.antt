-- Which posts are inside their values, and the records that these make. Assumes nothing.
use Rattle.std.specs.Prelude.{◌≡◌, Bool, true, ◌&&◌}
use Rattle.tables.specs.Ranges.{is_flag, flag}
use Rattle.deemed.specs.declared.tag.Tag.{Tag}
use Rattle.deemed.specs.Tags.{as_tag, kw_in_range, telemetry_in_range}
use Rattle.rows.specs.declared.posts.EnergyPost.{EnergyPost}
use Rattle.rows.specs.declared.posts.TagPost.{TagPost}
use Rattle.rows.specs.declared.posts.ElectionPost.{ElectionPost}
use Rattle.rows.specs.declared.posts.TestPost.{TestPost}
use Rattle.rows.specs.declared.posts.TransferPost.{TransferPost}
use Rattle.rows.specs.declared.resource.EnergyRecord.{EnergyRecord}
use Rattle.rows.specs.declared.area.Election.{Election}
use Rattle.rows.specs.declared.area.SufficiencyTest.{SufficiencyTest}
use Rattle.rows.specs.declared.area.Transfer.{Transfer}
use Rattle.rows.specs.Dispatch.{is_known_type, as_dispatch}
use Rattle.rows.specs.Figures.{is_price, is_cap, is_energy, is_unsigned, is_power}
use Rattle.rows.specs.Figures.{as_price, as_cap, as_energy, as_unsigned, as_power}

unfoldable pub prices_in_range : EnergyPost → Bool
prices_in_range p = is_price p.lmp && is_price p.mss && is_price p.resprice && is_price p.edprice

-- what is priced at the resource's energy price
unfoldable pub energies_in_range : EnergyPost → Bool
energies_in_range p = is_energy p.iie && is_energy p.oa && is_energy p.mssiie && is_energy p.above

-- what is priced at prices of its own
unfoldable pub special_energies_in_range : EnergyPost → Bool
special_energies_in_range p = is_energy p.res && is_energy p.edqty

unfoldable pub energy_in_range : EnergyPost → Bool
energy_in_range p =
    prices_in_range p && energies_in_range p && special_energies_in_range p
    && is_flag p.resflag && is_known_type p.ed

unfoldable pub energy_record : EnergyPost → EnergyRecord
energy_record p = record {
  lmp = as_price p.lmp;
  mss = as_price p.mss;
  resprice = as_price p.resprice;
  edprice = as_price p.edprice;
  iie = as_energy p.iie;
  oa = as_energy p.oa;
  mssiie = as_energy p.mssiie;
  res = as_energy p.res;
  above = as_energy p.above;
  edqty = as_energy p.edqty;
  resflag = flag p.resflag;
  ed = as_dispatch p.ed;
}

unfoldable pub tag_in_range : TagPost → Bool
tag_in_range p = kw_in_range p.kw && telemetry_in_range p.telemetry && is_flag p.curtailed

unfoldable pub tag_record : TagPost → Tag
tag_record p = as_tag p.kw p.telemetry (flag p.curtailed)

unfoldable pub election_in_range : ElectionPost → Bool
election_in_range p = is_flag p.opted_in && is_cap p.cap && is_power p.up && is_power p.nopay

unfoldable pub election_record : ElectionPost → Election
election_record p =
    record { opted_in = flag p.opted_in; cap = as_cap p.cap; up = as_power p.up; nopay = as_power p.nopay }

unfoldable pub test_in_range : TestPost → Bool
test_in_range p = is_power p.capacity && is_power p.ramp && is_power p.nopay

unfoldable pub test_record : TestPost → SufficiencyTest
test_record p = record { capacity = as_power p.capacity; ramp = as_power p.ramp; nopay = as_power p.nopay }

unfoldable pub transfer_in_range : TransferPost → Bool
transfer_in_range p = is_unsigned p.to && is_unsigned p.base_to && is_unsigned p.from && is_unsigned p.base_from

unfoldable pub transfer_record : TransferPost → Transfer
transfer_record p = record {
  to = as_unsigned p.to;
  base_to = as_unsigned p.base_to;
  from = as_unsigned p.from;
  base_from = as_unsigned p.base_from;
}

-- a post of nothing is inside its values, and makes the record that stands where nothing was posted
abbrev pub MakesUnposted : {P R : Type 0} → (P → Type 0) → (P → Bool) → (P → R) → R → Type 0
MakesUnposted of_nothing is_in_range record_of unposted =
    (p : _) → of_nothing p → (is_in_range p ≡ true) × (record_of p ≡ unposted)
