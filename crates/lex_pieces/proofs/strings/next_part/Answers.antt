use Rattle.std.proofs.lemmas.List.{take_rest}
use Rattle.lex_pieces.proofs.PartLemmas.{part_within}
use Rattle.lex_pieces.proofs.strings.next_part.Goals as goal

pub returns-clause-within : goal.returns-clause-within
returns-clause-within c =
    part_within c.args.quote c.args.at c.args.text.now c.part_at.result c.requires (rw (take_rest c.args.text.now c.args.at) at c.part_at.ensures)
