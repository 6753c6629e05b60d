-- A tie's hour, before and after a pool is shared among its intervals. Assumes nothing.
use Rattle.std.proofs.Common.{◌≡◌, ℕ, List, map, length, ℤ, Ok, Err, Result, refl, sym, ap, ◌∙◌, arith}
use mathlib.Core.List.{map-map}
use Rattle.std.proofs.lemmas.List.{length-map}
use Rattle.sharing.specs.declared.outcome.SharingFault.{SharingFault}
use Rattle.sharing.specs.Limits.{Within}
use Rattle.sharing.specs.Laws.{Apportioned, Lawful}
use Rattle.sharing.specs.Handing.{SharedOut}
use Rattle.sharing.proofs.Parts.{only_no_weight}
use Rattle.sharing.proofs.Told.{AreShares, told_back}
use Rattle.deemed.specs.declared.quantities.Units.{Units}
use Rattle.deemed.specs.declared.fault.PoolFault.{PoolFault}
use Rattle.deemed.specs.declared.tag.Tag.{Tag}
use Rattle.deemed.specs.declared.hour.Interval.{Interval}
use Rattle.deemed.specs.declared.hour.TieHour.{TieHour}
use Rattle.deemed.specs.Ranges.{hour_length}
use Rattle.deemed.specs.Tags.{pool, weight, weights}
use Rattle.deemed.specs.Pools.{PoolOutcome, OutcomeWithin}
use Rattle.deemed.specs.Hours.{units_of, weights_of, energies}
use Rattle.deemed.specs.Deemed.{IsShared, IsSharedByTags, IsStaticTie}
use Rattle.deemed.proofs.Limits.{within_limits}
use Rattle.deemed.proofs.Intervals.{same_hour, weights_long, energies_are}

-- what `share_out` says of the intervals of an hour
abbrev pub SharedAmong : {T : Type 0} → (ℤ → List ℕ → List ℤ) → ℤ → TieHour → TieHour → Result T SharingFault → Type 0
SharedAmong shares p before after r =
    SharedOut (λ (i : Interval). i.weight) (λ i. i.deemed) (λ i (u : Units). record { weight = i.weight; deemed = u }) (λ u. u.0) (λ z. record { 0 = z }) shares p before.intervals after.intervals r

module _ {shares : ℤ → List ℕ → List ℤ} {p : ℤ} {before after : TieHour} where
  pub shared_hour : {T : Type 0} (x : T) → Lawful shares → SharedAmong shares p before after (Ok x) → IsShared shares p before after (Ok x)
  unfolding weights_of
  shared_hour x lawful s =
      let ws : List ℕ = weights_of before in
      let us : List ℤ = energies (units_of after) in
      let long = weights_long before in
      let told : AreShares shares p ws us = rw (← energies_are after) (told_back (λ i. i.deemed) (λ i u. refl) (λ z. refl) lawful s) in
      let laws : Apportioned p ws us = told.1 in
      record {
        outcome = (s.outcome.0, s.outcome.1, told.0);
        kept = tt;
        same_weights = s.steady;
        in_full = laws.in_full s.outcome.1;
        near = λ i h. record { near = λ some. laws.near i some (omega arith); none = λ none. laws.no_weight i none (omega arith) };
      }

  pub refused_hour : {T : Type 0} (f : SharingFault) (d : PoolFault) → d.0 ≡ f → SharedAmong {T = T} shares p before after (Err f) → IsShared {T = T} shares p before after (Err d)
  unfolding weights_of
  refused_hour f d whole s =
      record {
        outcome = rw whole s.outcome;
        kept = same_hour after before s.kept;
        same_weights = s.steady;
        in_full = tt;
        near = tt;
      }

-- inside the limits there is one fault
pub outcome_within : {T : Type 0} (p : ℤ) (ws : List ℕ) (right : Type 0) (r : Result T PoolFault) → Within p ws → PoolOutcome p ws right r → OutcomeWithin p ws right r
outcome_within p ws right (Ok x) within o = (o.1, o.2)
outcome_within p ws right (Err f) within o = only_no_weight p ws f.0 within o

-- an hour with the weights of tags has as many
pub tags_long : (h : TieHour) (tags : List Tag) → weights_of h ≡ weights tags → length tags ≡ hour_length
tags_long h tags weighed = sym (length-map tags weight) ∙ ap length (sym weighed) ∙ weights_long h

-- by the weights of twelve tags, with what they schedule
pub shared_by_tags : {T : Type 0} {shares : ℤ → List ℕ → List ℤ} {p : ℤ} {before after : TieHour} (r : Result T PoolFault) → IsShared shares p before after r → IsSharedByTags shares p before after r
shared_by_tags {shares = shares} {p = p} {before = before} {after = after} r s tags weighed is =
    let long : length tags ≡ hour_length = tags_long before tags weighed in
    let within : Within (pool tags) (weights tags) = within_limits tags long in
    let t : IsShared shares (pool tags) before after r = rw (← is) s in
    record {
      outcome = outcome_within (pool tags) (weights tags) _ r within (rw (← weighed) t.outcome);
      within = within;
      in_full = t.in_full;
      near = rw (← weighed) t.near;
    }

-- what the tags schedule, interval by interval
pub scheduled : (ts : List Tag) (us : List Units) → us ≡ map (λ t. record { 0 = t.kw.0 }) ts → IsStaticTie ts us
scheduled ts us is =
    record { each = is; in_full = rw is (simp map-map) }
