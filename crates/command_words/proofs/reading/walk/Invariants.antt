use Rattle.std.proofs.Common.{◌≡◌, map, drop}
use Rattle.std.specs.Prelude.{string_bytes}
use Rattle.command_words.specs.Reading.{walk, nothing}
use Rattle.command_words.proofs.reading.walk.Given as goal

abbrev pub invariant-loop-place : goal.invariant-loop-place
invariant-loop-place l = record {
  rest : walk l.place (map string_bytes (drop l.place l.words)) l.seen ≡ walk 0 (map string_bytes l.words) nothing;
}
