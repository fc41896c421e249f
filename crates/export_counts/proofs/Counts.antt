-- A source has no more exports than bytes, and a program fewer names than the bound of chains.
use Rattle.std.proofs.Common.{◌≡◌, ℕ, ◌*◌, ◌≤◌, List, [], ◌∷◌, length, map, ap, arith}
use Rattle.std.proofs.lemmas.List.{length-append, length-map}
use Rattle.flow_values.specs.declared.span.Span.{Span}
use Rattle.check_values.specs.Rows.{Bytes, Rows}
use Rattle.check_values.specs.declared.signatures.LocalSig.{LocalSig}
use Rattle.check_values.specs.declared.faults.Fault.{Fault}
use Rattle.js_lexer.specs.Answers.{source_limit}
use Rattle.js_tree.specs.View.{module_view}
use Rattle.js_grammar.specs.Items.{Module}
use Rattle.local_signatures.specs.LocalSignature.{exports_of}
use Rattle.source_front.specs.declared.parse.ParseTree.{ParseTree}
use Rattle.source_front.specs.declared.parse.ParseTree.TheVariants.{Tree, Broken}
use Rattle.source_front.specs.Front.{HasTree, Says}
use Rattle.merged_signatures.specs.Chains.{Known, most}
use Rattle.merged_signatures.specs.Programs.{names_of}
use Rattle.export_counts.specs.Law.{AtMostBytes, AtMostLimit, AreParsed, FewNames}
use Rattle.export_counts.proofs.Tokens.{tokens_within}
use Rattle.export_counts.proofs.Spelled.{exports_within}

-- within the bytes of the source, of which there are no more than there may be
record IsWithin (text : Bytes) (count : ℕ) : Type 0 where
  bytes : count ≤ length text
  limit : count ≤ source_limit

of_tree : (text : Bytes) (m : Module) (spans : List Span) → HasTree text m spans → IsWithin text (length (exports_of m))
of_tree text m spans (tokens, lexed, answers, is) =
    let exports = exports_within m in
    let spelled = ap length answers.1.1 in
    let count = length-map tokens (λ t. t.kind) in
    let bytes = tokens_within text tokens lexed.1 lexed.2 in
    let small = lexed.0 in
    record { bytes = omega (arith, exports, spelled, count, bytes); limit = omega (arith, exports, spelled, count, bytes, small) }

of_source : (text : Bytes) (tree : ParseTree) (sig : LocalSig) (faults : List Fault) → Says text tree sig faults → IsWithin text (length sig.exports)
of_source text (Tree m spans) sig faults says =
    let within = of_tree text (module_view m) spans says.0 in
    let same = ap (λ (s : LocalSig). length s.exports) says.1 in
    record { bytes = omega (arith, within.bytes, same); limit = omega (arith, within.limit, same) }
of_source text (Broken f) sig faults says =
    let none : length sig.exports ≡ 0 = ap (λ (s : LocalSig). length s.exports) says.1 in
    record { bytes = omega (arith, none); limit = omega (arith, none) }

pub at_most_bytes : AtMostBytes
at_most_bytes text parse is = (of_source text parse.tree parse.sig parse.faults is).bytes

pub at_most_limit : AtMostLimit
at_most_limit text parse is = (of_source text parse.tree parse.sig parse.faults is).limit

names_within : (program : Rows Known) → AreParsed program → length (names_of program) ≤ length program * source_limit
names_within [] are = omega arith
names_within (row ∷ rows) are =
    let parsed = are.0 in
    let here = at_most_limit parsed.0 parsed.1 parsed.2 in
    let same = ap (λ (s : LocalSig). length s.exports) parsed.3 in
    let rest = names_within rows are.1 in
    let both = length-append (map (λ e. (row.0, e.0)) row.1.sig.exports) (names_of rows) in
    let count = length-map {B = Bytes × Bytes} row.1.sig.exports (λ e. (row.0, e.0)) in
    omega (arith, here, same, rest, both, count)

pub few_names : FewNames
unfolding most
few_names program few are = let within = names_within program are in omega (arith, few, within)
