-- For a party as it is entered nothing is given. Assumes nothing.
use Rattle.std.proofs.Common.{◌≡◌, ◌<◌, ◌∙◌, ap, ℕ, pos}
use Rattle.std.proofs.lemmas.List.{get_or-replicate}
use Rattle.deemed.specs.Ranges.{hour_length}
use Rattle.rows.specs.declared.figures.Cents.{Cents}
use Rattle.rows.specs.declared.figures.GivenAmount.{GivenAmount}
use Rattle.rows.specs.declared.given.GivenCode.{GivenCode}
use Rattle.rows.specs.declared.given.GivenCode.TheVariants.{PassThrough, Cc6474, Cc6475}
use Rattle.rows.specs.Figures.{as_given, no_cents}
use Rattle.rows.specs.Rows.{new_party, nothing_given}
use Rattle.rows.specs.Posted.{given_at}
use Rattle.rows.proofs.FigureLaws.{nothing_is_given}

pub nothing_given_at : (code : GivenCode) (index id area : ℕ) → index < hour_length → (given_at code index (new_party id area)).cents.0 ≡ pos 0
unfolding nothing_given
nothing_given_at code index id area h =
    ap (λ (g : GivenAmount). g.cents.0) (under code) ∙ ap (λ (c : Cents). c.0) nothing_is_given
  where
    under : (code : GivenCode) → given_at code index (new_party id area) ≡ as_given no_cents
    under PassThrough = get_or-replicate hour_length index (as_given no_cents) (as_given no_cents) h
    under Cc6474 = get_or-replicate hour_length index (as_given no_cents) (as_given no_cents) h
    under Cc6475 = get_or-replicate hour_length index (as_given no_cents) (as_given no_cents) h
