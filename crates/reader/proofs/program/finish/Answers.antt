use Rattle.std.proofs.Common.{sym, ap, subst, ◌∙◌, [], ◌++◌}
use Rattle.std.proofs.lemmas.Result.{on_ok_weaker}
use Rattle.std.proofs.KnownBytes.{Appends-nil}
use Rattle.std.specs.Option.{option_to_list}
use Rattle.std.specs.Io.KnownBytes.{Appends}
use Rattle.reader.specs.Printing.{refusals_text, listing_text}
use Rattle.reader.proofs.Writing.{wrote_on, refusals_and_one}
use Rattle.reader.proofs.program.finish.Goals as goal
use Rattle.reader.proofs.program.finish.Goals.{in-Some+in_ok-writeln, in_default}

pub returns-clause-finished : goal.returns-clause-finished
returns-clause-finished g c =
    let held = g.W.Write.contents c.args.out.now in
    let refused = refusals_text (option_to_list c.end.result) in
    let told : Appends held (g.W.Write.contents c.match-end.out) refused =
    elim c.match-end.branch [
      | in-Some+in_ok-writeln w ↦
          rw (w.out-is, w.in-Some.is)
          (subst (Appends held (g.W.Write.contents w.writeln.new.self)) (sym (refusals_and_one [] w.in-Some.line)) w.in_ok-writeln.ensures.bytes)
      | in_default w ↦ rw (w.out-is, w.in_default.is) (Appends-nil held)
    ] in
    let rows = sym (c.lines.ensures.lines ∙ ap (λ b. b.lines.rows) c.book.ensures) in
    on_ok_weaker c.write_listing.result
    (λ written. record {
      refused = c.end.result;
      ended = c.end.ensures;
      written = wrote_on _ _ _ _ _ _ told written (ap (λ lines. refused ++ listing_text lines) rows);
    })
    c.write_listing.ensures
