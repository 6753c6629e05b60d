use Rattle.std.proofs.Common.{◌≡◌, rules, false, bytes_eq}
use Rattle.blocks.proofs.Columns.{words_stand}
use Rattle.blocks.specs.Names.{name_at, word_name}
use Rattle.blocks.proofs.values.Values.put.Goals as goal

pub returns-in_ok-self : goal.returns-in_ok-self
returns-in_ok-self c =
    let e = words_stand c.args.block c.args.place c.requires in
    let other : bytes_eq (name_at c.args.block c.args.place) (word_name c.args.block) ≡ false = cc in
    rw other (search rules)
