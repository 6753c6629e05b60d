use Rattle.std.proofs.Common.{◌≡◌, ℕ, List, map, ℤ, Ok, ap, ◌∙◌, w64, SFits, rules}
use Rattle.std.proofs.lemmas.List.{length-map}
use Rattle.std.proofs.lemmas.Int.{to_z-of_z}
use Rattle.sharing.specs.Handing.{after_taking}
use Rattle.sharing.proofs.Hands.{shared_as, same_handed}
use Rattle.sharing.proofs.Told.{handed_told}
use Rattle.sharing.proofs.recipients.share_out.Goals as goal

pub returns : goal.returns
returns g c =
    let f : SFits w64 c.count.result = search rules in
    let s = shared_as (g.R.SharingRule.shares c.args.rule.now) (Ok c.in_ok-answer.answer) _ _ _ _ (to_z-of_z w64 c.count.result f ∙ c.count.ensures) (c.deref.ensures.0 ∙ c.weights_of-weights.ensures) c.in_ok-answer.ensures in
    let ws : List ℕ = map g.X.Recipient.weighs c.args.to.now in
    let out : List ℤ = g.R.SharingRule.shares c.args.rule.now (g.X.Unit.Quantity.amount c.args.pool) ws in
    let after : c.hand_out.new.to ≡ after_taking g.X.Recipient.having g.X.Unit.Quantity.of c.args.to.now out = c.hand_out.ensures ∙ ap (after_taking g.X.Recipient.having g.X.Unit.Quantity.of c.args.to.now) (c.as_slice.ensures ∙ s.2) in
    let tells : g.row.X.Denot → ℤ = λ x. g.X.Unit.Quantity.amount (g.X.Recipient.holds x) in
    let told = handed_told g.X.Recipient.having g.X.Unit.Quantity.of c.args.to.now ws tells (λ x z. ap g.X.Unit.Quantity.amount (g.met.X.Recipient.tells_back x (g.X.Unit.Quantity.of z)) ∙ g.met.X.Unit.Quantity.back z)
    (g.met.R.SharingRule.lawful c.args.rule.now) (length-map c.args.to.now g.X.Recipient.weighs) s.0 after in
    record {
      outcome = (s.0, s.1, after);
      kept = tt;
      told = told.0;
      lawful = told.1;
      steady = ap (map g.X.Recipient.weighs) after ∙ same_handed g.X.Recipient.having g.X.Unit.Quantity.of g.X.Recipient.weighs (λ x u. g.met.X.Recipient.steady x u) c.args.to.now out;
    }
