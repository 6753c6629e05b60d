use Rattle.std.proofs.Common.{List, ℕ, ℤ, Err, Ok, sym, ◌∙◌}
use Rattle.std.proofs.lemmas.Result.{err_from_is_err_and}
use Rattle.statement.proofs.Seen.{promises_kept, promises_seen}
use Rattle.statement.proofs.Settling.{settled_unworked, settled_booked, kept_booked}
use Rattle.statement.proofs.book.Book.settle.Goals as goal

pub returns-in_err-amounts-clause-settled : goal.returns-in_err-amounts-clause-settled
returns-in_err-amounts-clause-settled g c =
    let p = err_from_is_err_and c.from_residual.result c.from_residual.ensures.1 in
    rw (p.1, p.2, ← c.self.view_is) (settled_unworked (g.R.SharingRule.shares c.args.rule.now) c.self.inside.statement c.in_err-amounts.field-0.0 c.in_err-amounts.ensures)

pub returns-in_err-amounts-clause-promises : goal.returns-in_err-amounts-clause-promises
returns-in_err-amounts-clause-promises g c = promises_seen c.self.invariant c.self.view_is

pub returns-in_err-run-clause-settled : goal.returns-in_err-run-clause-settled
returns-in_err-run-clause-settled g c =
    let shares : ℤ → List ℕ → List ℤ = g.R.SharingRule.shares c.args.rule.now in
    let p = err_from_is_err_and c.from_residual-in_err-run.result c.from_residual-in_err-run.ensures.1 in
    rw (p.1, p.2, ← c.self.view_is)
    (settled_booked shares c.self.inside.statement c.self.inside.totals c.self.invariant c.in_ok-amounts.amounts c.in_ok-amounts.ensures c.parties.result.now c.parties.ensures.rows
    c.deref.result.now (c.deref.ensures.0 ∙ c.changes-lines.ensures) c.add_run.new.self (Err c.in_err-run.field-0.0) c.in_err-run.ensures)

pub returns-in_err-run-clause-promises : goal.returns-in_err-run-clause-promises
returns-in_err-run-clause-promises g c = promises_seen c.self.invariant (sym c.in_err-run.ensures.2)

pub invariant_of-self-2 : goal.invariant_of-self-2
invariant_of-self-2 g c =
    let shares : ℤ → List ℕ → List ℤ = g.R.SharingRule.shares c.args.rule.now in
    kept_booked shares c.self.inside.statement c.self.inside.totals c.self.invariant c.in_ok-amounts.amounts c.in_ok-amounts.ensures c.parties.result.now c.parties.ensures.rows
    c.deref.result.now (c.deref.ensures.0 ∙ c.changes-lines.ensures) (g.met.R.SharingRule.lawful c.args.rule.now) c.add_run.new.self c.in_ok-run.run' c.in_ok-run.ensures

pub returns-clause-settled : goal.returns-clause-settled
returns-clause-settled g c =
    let shares : ℤ → List ℕ → List ℤ = g.R.SharingRule.shares c.args.rule.now in
    rw (← c.self.view_is)
    (settled_booked shares c.self.inside.statement c.self.inside.totals c.self.invariant c.in_ok-amounts.amounts c.in_ok-amounts.ensures c.parties.result.now c.parties.ensures.rows
    c.deref.result.now (c.deref.ensures.0 ∙ c.changes-lines.ensures) c.add_run.new.self (Ok c.in_ok-run.run') c.in_ok-run.ensures)

pub returns-clause-history : goal.returns-clause-history
returns-clause-history g c = (invariant_of-self-2 g c).history

pub returns-clause-promises : goal.returns-clause-promises
returns-clause-promises g c = promises_kept (invariant_of-self-2 g c)
