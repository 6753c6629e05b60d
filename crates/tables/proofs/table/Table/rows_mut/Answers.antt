use Rattle.std.proofs.Common.{◌++◌, length, take, drop, refl, ap, ◌∙◌}
use Rattle.tables.specs.Tables.{with_first_rows}
use Rattle.tables.proofs.table.Table.rows_mut.Goals as goal

pub returns : goal.returns
unfolding with_first_rows
returns g c =
    let rows = c.self.inside.rows in (
      (refl, λ w. ap (λ n. record { rows = take n (w ++ drop (length w) rows.items); most = c.self.inside.most }) rows.ok.0 ∙ ap (λ t. with_first_rows t w) c.self.view_is),
      record { writes_back = tt; value = c.as_mut_slice.ensures.value ∙ ap (λ t. t.rows) c.self.view_is },
    )
