use Rattle.std.proofs.Common.{sym, ◌∙◌}
use Rattle.byte_places.proofs.Behind.{found_here}
use Rattle.byte_places.proofs.places.byte_place.Goals as goal

pub returns-then-in_column-column : goal.returns-then-in_column-column
returns-then-in_column-column c =
    found_here c.args.text.now c.args.line c.args.column c.loop-i.i c.loop-i.invariant.before
    (record {
      within = c.loop-i-test.true;
      begins = sym c.begins_char.ensures ∙ c.if-begins_char.true;
      in_line = sym c.loop-i.invariant.line ∙ c.if-in_line-line.true;
      in_column = sym c.loop-i.invariant.column ∙ c.if-in_column-column.true;
    })
