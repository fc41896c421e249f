-- What a source says by itself.
use Rattle.std.specs.Prelude.{◌≡◌, ℕ, List, [], length, map, slice_get, Option, Some, None, Ok, Err}
use Rattle.flow_values.specs.declared.span.Span.{Span}
use Rattle.check_values.specs.Rows.{Bytes}
use Rattle.check_values.specs.declared.signatures.LocalSig.{LocalSig}
use Rattle.check_values.specs.declared.faults.Fault.{Fault}
use Rattle.js_token.specs.declared.token.Token.{Token}
use Rattle.js_lexer.specs.Answers as lexing
use Rattle.js_lexer.specs.declared.fault.LexFault.TheVariants as lexed
use Rattle.js_grammar.specs.Items.{Module}
use Rattle.js_tree.specs.View.{module_view}
use Rattle.type_parser.specs.Reading.{kinds}
use Rattle.module_law.specs.Answer.{whole, fault, Answers}
use Rattle.local_signatures.specs.LocalSignature.{local_signature, broken_signature}
use Rattle.local_signatures.specs.Faults.{signature_faults}
use Rattle.source_front.specs.declared.parse.SourceFault.{SourceFault}
use Rattle.source_front.specs.declared.parse.SourceFault.TheVariants.{NotUtf8, BadToken, SourceTooLong, Parse as ParseAt}
use Rattle.source_front.specs.declared.parse.ParseTree.{ParseTree}
use Rattle.source_front.specs.declared.parse.ParseTree.TheVariants.{Tree, Broken}
use Rattle.source_front.specs.declared.parse.Parse.{Parse}

-- where a token begins, by the token if there is one
abbrev pub start_or : ℕ → Option Token → ℕ
start_or end None = end
start_or end (Some t) = t.span.start

-- the byte at which a token begins, and the end of the source where it has no such token
abbrev pub token_start : ℕ → List Token → ℕ → ℕ
token_start end tokens k = start_or end (slice_get tokens k)

-- a source has these tokens
abbrev pub HasTokens : Bytes → List Token → Type 0
HasTokens text tokens = lexing.Answers text (Ok tokens)

-- the tree of a source, and the span of each of its tokens
abbrev pub HasTree : Bytes → Module → List Span → Type 0
HasTree text m spans = (tokens : List Token) × HasTokens text tokens × Answers (kinds tokens) (whole m) × (spans ≡ map (λ t. t.span) tokens)

-- the fault of a source that has no tree
abbrev pub HasFault : Bytes → SourceFault → Type 0
HasFault text NotUtf8 = lexing.Answers text (Err lexed.NotUtf8)
HasFault text (BadToken at) = lexing.Answers text (Err (lexed.BadToken at))
HasFault text (SourceTooLong len) = lexing.Answers text (Err (lexed.SourceTooLong len))
HasFault text (ParseAt at) = (tokens : List Token) × (k : ℕ) × HasTokens text tokens × Answers (kinds tokens) (fault k) × (at ≡ token_start (length text) tokens k)

-- a tree, its signature and the faults of that; or a fault, and the signature of a source that is broken
abbrev pub Says : Bytes → ParseTree → LocalSig → List Fault → Type 0
Says text (Tree m spans) sig faults =
    HasTree text (module_view m) spans × (sig ≡ local_signature (module_view m)) × (faults ≡ signature_faults (module_view m) spans)
Says text (Broken f) sig faults = HasFault text f × (sig ≡ broken_signature) × (faults ≡ [])

-- This is what a source says by itself.
abbrev pub IsParse : Bytes → Parse → Type 0
IsParse text p = Says text p.tree p.sig p.faults
