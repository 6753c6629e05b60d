-- When a worked example holds: the definitions give what it says. Assumes nothing.
use Rattle.std.specs.Prelude.{◌≡◌, ℕ, Bool, true, false, List, [], ◌∷◌, ◌++◌, ℤ, pos, replicate}
use Rattle.sharing.specs.Outcome as sharing
use Rattle.sharing.specs.Outcome.{number_of}
use Rattle.sharing.specs.LargestRemainder.{largest_remainder}
use Rattle.sharing.specs.Running.{running}
use Rattle.deemed.specs.declared.tag.Tag.{Tag}
use Rattle.deemed.specs.Tags.{no_tag, pool, weights}
use Rattle.rows.specs.declared.kinds.ResourceKind.TheVariants.{Plain}
use Rattle.rows.specs.declared.dispatch.DispatchWord.{DispatchWord}
use Rattle.rows.specs.declared.dispatch.DispatchWord.TheVariants.{Absent, Named}
use Rattle.rows.specs.declared.posts.EnergyPost.{EnergyPost}
use Rattle.rows.specs.declared.posts.TagPost.{TagPost}
use Rattle.rows.specs.Posts.{energy_record, tag_record, election_record, test_record, transfer_record}
use Rattle.formulas.specs.declared.imbalance.Terms.{Terms}
use Rattle.formulas.specs.Rounding.{to_cents}
use Rattle.formulas.specs.Imbalance.{imbalance_products}
use Rattle.formulas.specs.Surcharge.{surcharge_pool}
use Rattle.examples.specs.declared.example.Rule.{Rule}
use Rattle.examples.specs.declared.example.Rule.TheVariants.{LargestRemainder, Running}
use Rattle.examples.specs.declared.example.Example.{Example}
use Rattle.examples.specs.declared.example.Example.TheVariants.{Rounding, Imbalance, Dispatch, Surcharge, Shared, Refused, Deemed}

-- a plain resource, neither net nor exempt
abbrev pub plain : Terms
plain = record { kind = Plain; net = false; exempt = false }

-- a post of a price and energy, and of a dispatch
abbrev pub energy_post : ℤ → ℤ → ℤ → ℤ → DispatchWord → EnergyPost
energy_post lmp iie edprice edqty ed = record {
  lmp = record { 0 = lmp };
  mss = record { 0 = pos 0 };
  resprice = record { 0 = pos 0 };
  edprice = record { 0 = edprice };
  iie = record { 0 = iie };
  oa = record { 0 = pos 0 };
  mssiie = record { 0 = pos 0 };
  res = record { 0 = pos 0 };
  above = record { 0 = pos 0 };
  edqty = record { 0 = edqty };
  resflag = pos 0;
  ed = ed;
}

-- its cents
abbrev pub imbalance_cents : EnergyPost → ℤ
imbalance_cents post = to_cents (imbalance_products plain (energy_record post) (pos 0))

-- the pool of an area that is opted in, by F, T, the credit and the bid cap
abbrev pub pool_of : ℤ → ℤ → ℤ → ℤ → ℤ
pool_of failed transferred credit cap =
    surcharge_pool (election_record (record { opted_in = pos 1; cap = record { 0 = cap }; up = record { 0 = credit }; nopay = record { 0 = pos 0 } }))
    (test_record (record { capacity = record { 0 = failed }; ramp = record { 0 = pos 0 }; nopay = record { 0 = pos 0 } }))
    (transfer_record (record { to = record { 0 = transferred }; base_to = record { 0 = pos 0 }; «from» = record { 0 = pos 0 }; base_from = record { 0 = pos 0 } }))

abbrev pub shares_by : Rule → ℤ → List ℕ → List ℤ
shares_by LargestRemainder p ws = largest_remainder p ws
shares_by Running p ws = running p ws

-- the tags of an hour with two
abbrev pub tags : TagPost → TagPost → List Tag
tags first second = tag_record first ∷ tag_record second ∷ replicate 10 no_tag

abbrev pub flag_of : Bool → ℤ
flag_of false = pos 0
flag_of true = pos 1

abbrev pub two_tags : ℤ → ℤ → Bool → List Tag
two_tags kw telemetry curtailed =
    tags (record { kw = record { 0 = kw }; telemetry = record { 0 = telemetry }; curtailed = pos 0 })
    (record { kw = record { 0 = kw }; telemetry = record { 0 = pos 0 }; curtailed = flag_of curtailed })

abbrev pub Holds : Example → Type 0
Holds (Rounding products cents) = to_cents products ≡ cents
Holds (Imbalance lmp iie cents) = imbalance_cents (energy_post lmp iie (pos 0) (pos 0) Absent) ≡ cents
Holds (Dispatch kind lmp edprice edqty cents) = imbalance_cents (energy_post lmp (pos 0) edprice edqty (Named kind)) ≡ cents
Holds (Surcharge failed transferred credit cap cents) = pool_of failed transferred credit cap ≡ cents
Holds (Shared rule p ws zs) = shares_by rule p ws.now ≡ zs.now
Holds (Refused p ws fault number) = sharing.Refused p ws.now fault × (number_of fault ≡ number)
-- under both rules
Holds (Deemed kw telemetry curtailed energies) =
    let ts : List Tag = two_tags kw telemetry curtailed in
    (largest_remainder (pool ts) (weights ts) ≡ energies ++ replicate 10 (pos 0)) × (running (pool ts) (weights ts) ≡ energies ++ replicate 10 (pos 0))

abbrev pub AllHold : List Example → Type 0
AllHold [] = Unit {0}
AllHold (e ∷ es) = Holds e × AllHold es
