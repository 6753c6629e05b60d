-- What a trial answers. Assumes nothing.
use Rattle.std.specs.Prelude.{[], ◌∷◌, Result, ℤ}
use Rattle.std.specs.Option.{option_map}
use Rattle.tables.specs.declared.refusal.Reason.{Reason}
use Rattle.tables.specs.declared.refusal.Reason.TheVariants.{OutsideSpan, OutsideValues}
use Rattle.tables.specs.Refusals.{◌unless◌}
use Rattle.tables.specs.Ranges.{is_id, as_id}
use Rattle.deemed.specs.declared.quantities.Units.{Units}
use Rattle.rows.specs.declared.figures.DeemedEnergy.{DeemedEnergy}
use Rattle.rows.specs.declared.posts.EnergyPost.{EnergyPost}
use Rattle.rows.specs.declared.resource.EnergyRecord.{EnergyRecord}
use Rattle.rows.specs.declared.resource.Resource.{Resource}
use Rattle.rows.specs.Slots.{is_interval}
use Rattle.rows.specs.Figures.{is_deemed, as_deemed}
use Rattle.rows.specs.Posts.{energy_in_range, energy_record}
use Rattle.formulas.specs.declared.products.Products.{Products}
use Rattle.formulas.specs.Imbalance.{imbalance_products, terms_of}
use Rattle.records.specs.View.{Hour}
use Rattle.records.specs.Hours.{resource_of}
use Rattle.records.specs.Readings.{found_unless}

-- a resource's products with an energy record and a deemed energy
abbrev pub products_with : EnergyRecord → DeemedEnergy → Resource → Products
products_with energy deemed r = record { 0 = imbalance_products (terms_of r) energy deemed.units.0 }

-- refused as the post would be, and where the deemed energy is outside its values
abbrev pub trial_read : ℤ → ℤ → EnergyPost → Units → Hour → Result Products Reason
trial_read id interval post deemed h =
    found_unless
    (OutsideSpan unless is_id id ∷ OutsideSpan unless is_interval interval
    ∷ OutsideValues unless energy_in_range post ∷ OutsideValues unless is_deemed deemed ∷ [])
    (option_map (products_with (energy_record post) (as_deemed deemed)) (resource_of h (as_id id)))
