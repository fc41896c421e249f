use Rattle.std.proofs.Common.{[], ◌∷◌, map}
use Rattle.std.specs.Prelude.{string_bytes}
use Rattle.flowd.proofs.Answering.{that_place, no_word, word_at}
use Rattle.flowd.proofs.answer.root_of.Goals as goal

pub returns-in-Some : goal.returns-in-Some
returns-in-Some c =
    that_place (map string_bytes c.args.words.now) c.in-Some.place c.as_str.result.now c.one_command.ensures.one c.in-Some.ensures.place
    (word_at string_bytes c.args.words.now c.in-Some.place c.index-words-place.result c.as_str.result.now c.in-Some.ensures.within c.index-words-place.is c.as_str.ensures.value)

pub returns-in-None : goal.returns-in-None
returns-in-None c = no_word (map string_bytes c.args.words.now) (46 ∷ []) c.in-None.ensures.none
