use Rattle.std.proofs.Common.{rules}
use Rattle.rows.specs.Ranges.{most_price}
use Rattle.formulas.specs.Working.{most_priced}
use Rattle.formulas.proofs.Bounds.{product_within, product_fits}
use Rattle.formulas.proofs.products.Products.of.Goals as goal

pub returns-clause-value : goal.returns-clause-value
returns-clause-value c =
    let fits = product_fits c.args.price.0 c.args.energy.0 c.requires.price c.requires.energy in
    search rules

pub returns-clause-within : goal.returns-clause-within
returns-clause-within c =
    let fits = product_fits c.args.price.0 c.args.energy.0 c.requires.price c.requires.energy in
    let within = product_within c.args.price.0 c.args.energy.0 most_price most_priced c.requires.price c.requires.energy in
    search rules
