use Rattle.std.specs.Prelude.{string_bytes}
use Rattle.command_words.proofs.Exact.{within_is}
use Rattle.command_words.proofs.reading.root_word.Goals as goal

pub returns-clause-within : goal.returns-clause-within
returns-clause-within c = within_is string_bytes c.args.words.now c.in_ok-read_words.field-0 c.place_of.result c.in_ok-read_words.ensures.says c.place_of.ensures
