-- How many exports a source has, and how many names the modules of a program.
use Rattle.std.specs.Prelude.{◌≡◌, ◌<◌, ◌≤◌, ◌^◌, [], ◌∷◌, length}
use Rattle.check_values.specs.Rows.{Bytes, Rows}
use Rattle.js_lexer.specs.Answers.{source_limit}
use Rattle.source_front.specs.declared.parse.Parse.{Parse}
use Rattle.source_front.specs.Front.{IsParse}
use Rattle.merged_signatures.specs.Chains.{Known, most}
use Rattle.merged_signatures.specs.Programs.{names_of}

-- A source has at most as many exports as bytes,
abbrev pub AtMostBytes : Type 0
AtMostBytes = (text : Bytes) (parse : Parse) → IsParse text parse → length parse.sig.exports ≤ length text

-- and at most as many as a source may have bytes.
abbrev pub AtMostLimit : Type 0
AtMostLimit = (text : Bytes) (parse : Parse) → IsParse text parse → length parse.sig.exports ≤ source_limit

-- what is known of each of these modules is what a source says by itself
abbrev pub AreParsed : Rows Known → Type 0
AreParsed [] = Unit {0}
AreParsed (row ∷ rows) = ((text : Bytes) × (parse : Parse) × IsParse text parse × (row.1.sig ≡ parse.sig)) × AreParsed rows

-- Fewer than 2^32 such modules have fewer names than the steps for which a chain is followed.
abbrev pub FewNames : Type 0
FewNames = (program : Rows Known) → length program < 2 ^ 32 → AreParsed program → length (names_of program) < most
