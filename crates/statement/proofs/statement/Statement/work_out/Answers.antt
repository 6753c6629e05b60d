use Rattle.std.proofs.Common.{◌≡◌, ◌==◌, false, Ok, Err, ap, ◌∙◌, rules, arith}
use Rattle.std.specs.Result.{MatchResult}
use Rattle.std.proofs.lemmas.Bool.Decides.{nat_tests}
use Rattle.std.proofs.lemmas.Result.{err_from_is_err_and, MatchResult-weaker}
use Rattle.charges.specs.Faults.{refusal_of}
use Rattle.statement.specs.Ranges.{most_runs}
use Rattle.statement.proofs.Settling.{hour_worked_out}
use Rattle.statement.proofs.statement.Statement.work_out.Goals as goal

pub returns : goal.returns
returns g c =
    let answers : MatchResult c.work_out.result (λ a. c.map_err.result ≡ Ok a) (λ f. c.map_err.result ≡ Err (refusal_of f)) =
    MatchResult-weaker c.work_out.result c.map_err.ensures.cases (λ a is. is) (λ f is. let p = err_from_is_err_and c.map_err.result is in p.1 ∙ ap Err (search rules)) in
    let run_left : (c.args.self.now.runs == most_runs) ≡ false = grind (arith, nat_tests) in
    hour_worked_out (g.R.SharingRule.shares c.args.rule.now) c.args.self.now run_left c.work_out.result c.map_err.result answers c.work_out.ensures
