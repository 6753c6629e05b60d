-- What a line of values orders. Assumes nothing.
use Rattle.std.specs.Prelude.{ℕ, ◌&&◌, if◌then◌else◌, List, Option, Some, None, codes, ℤ}
use Rattle.std.specs.Option.{option_map, option_and_then}
use Rattle.deemed.specs.declared.quantities.Units.{Units}
use Rattle.deemed.specs.declared.quantities.Kilowatts.{Kilowatts}
use Rattle.deemed.specs.declared.quantities.TelemetrySteps.{TelemetrySteps}
use Rattle.rows.specs.declared.figures.PriceSteps.{PriceSteps}
use Rattle.rows.specs.declared.figures.Cents.{Cents}
use Rattle.rows.specs.declared.posts.EnergyPost.{EnergyPost}
use Rattle.rows.specs.declared.posts.TagPost.{TagPost}
use Rattle.rows.specs.declared.posts.ElectionPost.{ElectionPost}
use Rattle.rows.specs.declared.posts.TestPost.{TestPost}
use Rattle.rows.specs.declared.posts.TransferPost.{TransferPost}
use Rattle.rows.specs.Kinds.{area_kind, resource_kind}
use Rattle.rows.specs.Dispatch.{dispatch_word}
use Rattle.records.specs.declared.call.Call.TheVariants.{EnterArea, EnterParty, EnterResource, PostEnergy, PostTag, PostElection, PostTest, PostTransfer, PostDemand, PostGiven}
use Rattle.words.specs.Texts.{words_of}
use Rattle.blocks.specs.declared.block.Block.{Block}
use Rattle.blocks.specs.declared.block.Block.TheVariants.{Area, Party, Resource, Energy, Tag, Election, Test, Transfer, Demand, Given, Settle}
use Rattle.blocks.specs.declared.order.Order.{Order}
use Rattle.blocks.specs.declared.order.Order.TheVariants.{Call as CallOf, Settle as SettleBy}
use Rattle.blocks.specs.Rules.{rule_of}
use Rattle.blocks.specs.Headings.{is_short}
use Rattle.blocks.specs.Values.{under, values_fit, number_or_0}

-- the number under a name, as it is or as a quantity
abbrev pub number : (List ℕ → Option (List ℕ)) → List ℕ → ℤ
number value name = number_or_0 (value name)

abbrev pub price_steps : (List ℕ → Option (List ℕ)) → List ℕ → PriceSteps
price_steps value name = record { 0 = number value name }

abbrev pub units : (List ℕ → Option (List ℕ)) → List ℕ → Units
units value name = record { 0 = number value name }

abbrev pub kilowatts : (List ℕ → Option (List ℕ)) → List ℕ → Kilowatts
kilowatts value name = record { 0 = number value name }

abbrev pub telemetry_steps : (List ℕ → Option (List ℕ)) → List ℕ → TelemetrySteps
telemetry_steps value name = record { 0 = number value name }

abbrev pub cents : (List ℕ → Option (List ℕ)) → List ℕ → Cents
cents value name = record { 0 = number value name }

abbrev pub energy_post : (List ℕ → Option (List ℕ)) → EnergyPost
energy_post value = record {
  lmp = price_steps value (codes "lmp");
  mss = price_steps value (codes "mss");
  resprice = price_steps value (codes "resprice");
  edprice = price_steps value (codes "edprice");
  iie = units value (codes "iie");
  oa = units value (codes "oa");
  mssiie = units value (codes "mssiie");
  res = units value (codes "res");
  above = units value (codes "above");
  edqty = units value (codes "edqty");
  resflag = number value (codes "resflag");
  ed = dispatch_word (value (codes "ed"));
}

abbrev pub tag_post : (List ℕ → Option (List ℕ)) → TagPost
tag_post value = record {
  kw = kilowatts value (codes "kw");
  telemetry = telemetry_steps value (codes "telemetry");
  curtailed = number value (codes "curtailed");
}

abbrev pub election_post : (List ℕ → Option (List ℕ)) → ElectionPost
election_post value = record {
  opted_in = number value (codes "in");
  cap = price_steps value (codes "cap");
  up = kilowatts value (codes "up");
  nopay = kilowatts value (codes "nopay");
}

abbrev pub test_post : (List ℕ → Option (List ℕ)) → TestPost
test_post value = record {
  capacity = kilowatts value (codes "capacity");
  ramp = kilowatts value (codes "ramp");
  nopay = kilowatts value (codes "nopay");
}

abbrev pub transfer_post : (List ℕ → Option (List ℕ)) → TransferPost
transfer_post value = record {
  to = units value (codes "to");
  base_to = units value (codes "baseto");
  from = units value (codes "from");
  base_from = units value (codes "basefrom");
}

-- the order of a block's line, by the values under its names; nothing where a settle names no rule
abbrev pub order_of : Block → (List ℕ → Option (List ℕ)) → Option Order
order_of Area value = Some (CallOf (EnterArea (number value (codes "area")) (option_and_then area_kind (value (codes "kind")))))
order_of Party value = Some (CallOf (EnterParty (number value (codes "party")) (number value (codes "area"))))
order_of Resource value =
    Some (CallOf (EnterResource (number value (codes "resource")) (number value (codes "owner")) (option_and_then resource_kind (value (codes "kind"))) (number value (codes "net")) (number value (codes "exempt"))))
order_of Energy value = Some (CallOf (PostEnergy (number value (codes "energy")) (number value (codes "interval")) (energy_post value)))
order_of Tag value = Some (CallOf (PostTag (number value (codes "tag")) (number value (codes "interval")) (tag_post value)))
order_of Election value = Some (CallOf (PostElection (number value (codes "election")) (election_post value)))
order_of Test value = Some (CallOf (PostTest (number value (codes "test")) (number value (codes "quarter")) (test_post value)))
order_of Transfer value = Some (CallOf (PostTransfer (number value (codes "transfer")) (number value (codes "interval")) (transfer_post value)))
order_of Demand value = Some (CallOf (PostDemand (number value (codes "demand")) (number value (codes "interval")) (units value (codes "units"))))
order_of Given value =
    Some (CallOf (PostGiven (number value (codes "given")) (number value (codes "interval")) (number value (codes "code")) (cents value (codes "cents"))))
order_of Settle value = option_map SettleBy (option_and_then rule_of (value (codes "settle")))

-- the order of a line under the names of its block, if the line is as it must be
abbrev pub order_in : Block × List (List ℕ) → List ℕ → Option Order
order_in h line = if is_short line && values_fit h.0 h.1 (words_of line) then order_of h.0 (under h.1 (words_of line)) else None
