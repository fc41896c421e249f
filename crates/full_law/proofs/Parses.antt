-- What each source says by itself.
use Rattle.std.proofs.Common.{◌≡◌, inl, inr, List, [], length, map, refl, sym, subst}
use Rattle.std.specs.Prelude.{◌≢◌, Ok, Err}
use Rattle.check_values.specs.Rows.{Bytes}
use Rattle.js_token.specs.declared.token.Token.{Token}
use Rattle.js_lexer.specs.Answers as lexing
use Rattle.js_lexer.specs.declared.fault.LexFault.{LexFault}
use Rattle.js_lexer.specs.declared.fault.LexFault.TheVariants as lexed
use Rattle.js_grammar.specs.Items as g
use Rattle.js_tree.specs.View.{module_view}
use Rattle.js_tree.specs.declared.items.Module.{Module}
use Rattle.type_parser.specs.Reading.{kinds}
use Rattle.module_law.specs.Answer.{Answer, whole, fault, Answers}
use Rattle.module_law.specs.Answer as reading
use Rattle.local_signatures.specs.LocalSignature.{local_signature, broken_signature}
use Rattle.local_signatures.specs.Faults.{signature_faults}
use Rattle.program_check.specs.source_front.specs.declared.parse.SourceFault.{SourceFault}
use Rattle.program_check.specs.source_front.specs.declared.parse.SourceFault.TheVariants.{NotUtf8, BadToken, SourceTooLong, Parse as ParseAt}
use Rattle.program_check.specs.source_front.specs.declared.parse.ParseTree.TheVariants.{Tree, Broken}
use Rattle.program_check.specs.source_front.specs.declared.parse.Parse.{Parse}
use Rattle.program_check.specs.source_front.specs.Front.{HasFault, IsParse, token_start}
use Rattle.full_law.specs.Lexing as lex
use Rattle.full_law.specs.Trees.{EachModuleHasATree}

abbrev pub HasParse : Bytes → Type 0
HasParse text = (p : Parse) × IsParse text p

broken_parse : (text : Bytes) (f : SourceFault) → HasFault text f → HasParse text
broken_parse text f has = (record { tree = Broken f; sig = broken_signature; faults = [] }, (has, refl, refl))

module _ (text : Bytes) (tokens : List Token) (has : lexing.Answers text (Ok tokens)) where
  tree_parse : (m : g.Module) → Answers (kinds tokens) (whole m) → (tree : Module) × (module_view tree ≡ m) → HasParse text
  tree_parse m answers (tree, is) =
      let spans = map (λ (t : Token). t.span) tokens in
      let read : Answers (kinds tokens) (whole (module_view tree)) = subst (λ (n : g.Module). Answers (kinds tokens) (whole n)) (sym is) answers in (
        record { tree = Tree tree spans; sig = local_signature (module_view tree); faults = signature_faults (module_view tree) spans },
        ((tokens, has, read, refl), refl, refl),
      )

  token_parse : EachModuleHasATree → (a : Answer) → Answers (kinds tokens) a → HasParse text
  token_parse trees (whole m) answers = tree_parse m answers (trees m)
  token_parse trees (fault k) answers = broken_parse text (ParseAt (token_start (length text) tokens k)) (tokens, k, has, answers, refl)

fault_parse : (text : Bytes) (f : LexFault) → f ≢ lexed.NoMemory → lexing.Answers text (Err f) → HasParse text
fault_parse text (lexed.SourceTooLong len) known has = broken_parse text (SourceTooLong len) has
fault_parse text lexed.NotUtf8 known has = broken_parse text NotUtf8 has
fault_parse text (lexed.BadToken at) known has = broken_parse text (BadToken at) has
fault_parse text lexed.NoMemory known has = absurd (known refl)

pub each_parse : lex.EachHasAnswer → reading.EachHasAnswer → EachModuleHasATree → (text : Bytes) → HasParse text
each_parse lexes reads trees text = by (lexes text)
  where
    by : lex.HasAnswer text → HasParse text
    by (inl (tokens, has)) = let read = reads (kinds tokens) in token_parse text tokens has trees read.0 read.1
    by (inr (f, known, has)) = fault_parse text f known has
