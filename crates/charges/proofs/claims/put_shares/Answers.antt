use Rattle.std.proofs.Common.{◌≡◌, ◌+◌, ◌<◌, ◌++◌, ℕ, length, take, drop, refl, sym, ap, ◌∙◌, arith}
use Rattle.std.proofs.lemmas.Bool.{eq-eqb, ne_eqb}
use Rattle.std.proofs.lemmas.List.{drop_all, take-append-drop}
use Rattle.charges.proofs.Putting.{put, left_yes, left_no, put_yes, put_no, given-put}
use Rattle.charges.proofs.claims.put_shares.Goals as goal
use Rattle.charges.proofs.claims.put_shares.Goals.{then-party-area, else-party-area}

pub loop-i-preserved : goal.loop-i-preserved
loop-i-preserved c =
    let i : ℕ = c.loop-i.i in
    let room : i < length c.loop-i.column = omega arith in
    elim c.if-party-area.branch [
      | then-party-area w ↦
          let e = eq-eqb _ _ w.if-party-area.true in
          let left = left_yes c.args.area c.args.parties.now i c.index-parties-i.result c.loop-i-test.true c.index-parties-i.is e in
          rw (w.next-is, w.column-is) (record {
            put_so_far = c.loop-i.invariant.put_so_far
                ∙ put_yes c.args.area c.args.parties.now i c.index-parties-i.result c.loop-i-test.true c.index-parties-i.is c.args.claims.now c.loop-i.next c.loop-i.column _ room e refl;
            one_each = omega (arith, left);
            long = ap length (sym w.column-is) ∙ c.if-party-area.auto.column ∙ c.loop-i.invariant.long;
          })
      | else-party-area w ↦
          let e = ne_eqb _ _ w.if-party-area.false in
          let left = left_no c.args.area c.args.parties.now i c.index-parties-i.result c.loop-i-test.true c.index-parties-i.is e in
          rw (w.next-is, w.column-is) (record {
            put_so_far = c.loop-i.invariant.put_so_far
                ∙ put_no c.args.area c.args.parties.now i c.index-parties-i.result c.loop-i-test.true c.index-parties-i.is c.args.claims.now c.loop-i.next c.loop-i.column room e;
            one_each = ap (λ l. c.loop-i.next + length l) (sym left) ∙ c.loop-i.invariant.one_each;
            long = c.loop-i.invariant.long;
          })
    ]

pub returns : goal.returns
returns c =
    let rest : put c.args.area (drop c.loop-i.i c.args.parties.now) (drop c.loop-i.next c.args.claims.now) (drop c.loop-i.i c.loop-i.column) ≡ drop c.loop-i.i c.loop-i.column =
    rw (drop_all c.loop-i.i c.args.parties.now c.loop-i-test.false) refl in
    let all : put c.args.area c.args.parties.now c.args.claims.now c.args.column.now ≡ c.loop-i.column =
    c.loop-i.invariant.put_so_far ∙ ap (λ l. take c.loop-i.i c.loop-i.column ++ l) rest ∙ take-append-drop c.loop-i.i c.loop-i.column in
    rw (← all) (given-put c.args.area c.args.parties.now c.args.claims.now c.args.column.now c.requires.room c.requires.one_each)
