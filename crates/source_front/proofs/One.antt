-- What a source says is one thing.
use Rattle.std.proofs.Common.{◌≡◌, ℕ, List, [], length, map, slice_get, Result, Ok, Err, refl, sym, ap, ◌∙◌, subst, ◌⊎◌, inl, inr}
use Rattle.flow_values.specs.declared.span.Span.{Span}
use Rattle.check_values.specs.Rows.{Bytes}
use Rattle.check_values.specs.declared.signatures.LocalSig.{LocalSig}
use Rattle.check_values.specs.declared.faults.Fault.{Fault}
use Rattle.js_token.specs.declared.token.Token.{Token}
use Rattle.js_lexer.specs.Answers as lexing
use Rattle.js_lexer.specs.declared.fault.LexFault.{LexFault}
use Rattle.js_lexer.specs.declared.fault.LexFault.TheVariants as lexed
use Rattle.js_grammar.specs.Items.{Module}
use Rattle.js_tree.specs.View.{module_view}
use Rattle.type_parser.specs.Reading.{kinds}
use Rattle.module_law.specs.Answer.{Answer, whole, fault, Answers, OneAnswer}
use Rattle.local_signatures.specs.LocalSignature.{local_signature, broken_signature}
use Rattle.local_signatures.specs.Faults.{signature_faults}
use Rattle.source_front.specs.declared.parse.SourceFault.{SourceFault}
use Rattle.source_front.specs.declared.parse.SourceFault.TheVariants.{NotUtf8, BadToken, SourceTooLong, Parse as ParseAt}
use Rattle.source_front.specs.declared.parse.ParseTree.{ParseTree}
use Rattle.source_front.specs.declared.parse.ParseTree.TheVariants.{Tree, Broken}
use Rattle.source_front.specs.declared.parse.Parse.{Parse}
use Rattle.source_front.specs.Front.{token_start, HasTree, HasFault, IsParse, Says}
use Rattle.source_front.specs.Law as law
use Rattle.source_front.specs.Law.{seen, Same, OneParse}

abbrev LexAnswer : Type 0
LexAnswer = Result (List Token) LexFault

abbrev OneLexing : Type 0
OneLexing = (source : List ℕ) (a b : LexAnswer) → lexing.Answers source a → lexing.Answers source b → lexing.Agree a b

-- two answers of which none is want of memory
agreed : (a b : LexAnswer) → lexing.Agree a b → (a ≡ Err lexed.NoMemory → ⊥) → (b ≡ Err lexed.NoMemory → ⊥) → a ≡ b
agreed a b (inl same) c d = same
agreed a b (inr (inl e)) c d = absurd (c e)
agreed a b (inr (inr e)) c d = absurd (d e)

module _ (lex : OneLexing) (read : OneAnswer) (text : Bytes) where
  same_tokens : (xs ys : List Token) → lexing.Answers text (Ok xs) → lexing.Answers text (Ok ys) → xs ≡ ys
  same_tokens xs ys a b =
      let e : Ok xs ≡ Ok ys = agreed (Ok xs) (Ok ys) (lex text (Ok xs) (Ok ys) a b) (λ n. cc) (λ n. cc) in cc

  -- tokens, and a fault of the tokens
  both : (xs : List Token) (f : LexFault) → (f ≡ lexed.NoMemory → ⊥) → lexing.Answers text (Ok xs) → lexing.Answers text (Err f) → ⊥
  both xs f c a b =
      let e : Ok xs ≡ Err f = agreed (Ok xs) (Err f) (lex text (Ok xs) (Err f) a b) (λ n. cc) (λ n. c (let m : Err f ≡ Err lexed.NoMemory = n in cc)) in cc

  same_fault : (f g : LexFault) → (f ≡ lexed.NoMemory → ⊥) → (g ≡ lexed.NoMemory → ⊥) → lexing.Answers text (Err f) → lexing.Answers text (Err g) → f ≡ g
  same_fault f g c d a b =
      let e : Err f ≡ Err g = agreed (Err f) (Err g) (lex text (Err f) (Err g) a b) (λ n. c (let m : Err f ≡ Err lexed.NoMemory = n in cc)) (λ n. d (let m : Err g ≡ Err lexed.NoMemory = n in cc)) in cc

  tree_and_fault : (m : Module) (spans : List Span) (f : SourceFault) → HasTree text m spans → HasFault text f → ⊥
  tree_and_fault m spans NotUtf8 (ts, has, reads, at) b = both ts lexed.NotUtf8 (λ n. cc) has b
  tree_and_fault m spans (BadToken at) (ts, has, reads, is) b = both ts (lexed.BadToken at) (λ n. cc) has b
  tree_and_fault m spans (SourceTooLong len) (ts, has, reads, is) b = both ts (lexed.SourceTooLong len) (λ n. cc) has b
  tree_and_fault m spans (ParseAt at) (ts, has, reads, is) (us, k, had, faults, place) =
      let e : whole m ≡ fault k = read (kinds ts) (whole m) (fault k) reads (subst (λ l. Answers (kinds l) (fault k)) (same_tokens us ts had has) faults) in cc

  same_tree : (m n : Module) (xs ys : List Span) → HasTree text m xs → HasTree text n ys → (m ≡ n) × (xs ≡ ys)
  same_tree m n xs ys (ts, has, reads, is) (us, had, readt, was) =
      let same = same_tokens us ts had has in
      let e : whole m ≡ whole n = read (kinds ts) (whole m) (whole n) reads (subst (λ l. Answers (kinds l) (whole n)) same readt) in
      (cc, is ∙ (sym (ap (map (λ t. t.span)) same) ∙ sym was))

  same_source_fault : (f g : SourceFault) → HasFault text f → HasFault text g → f ≡ g
  same_source_fault NotUtf8 NotUtf8 a b = refl
  same_source_fault NotUtf8 (BadToken i) a b = let e : lexed.NotUtf8 ≡ lexed.BadToken i = same_fault lexed.NotUtf8 (lexed.BadToken i) (λ n. cc) (λ n. cc) a b in cc
  same_source_fault NotUtf8 (SourceTooLong i) a b = let e : lexed.NotUtf8 ≡ lexed.SourceTooLong i = same_fault lexed.NotUtf8 (lexed.SourceTooLong i) (λ n. cc) (λ n. cc) a b in cc
  same_source_fault NotUtf8 (ParseAt i) a (ts, k, has, faults, place) = absurd (both ts lexed.NotUtf8 (λ n. cc) has a)
  same_source_fault (BadToken i) NotUtf8 a b = let e : lexed.BadToken i ≡ lexed.NotUtf8 = same_fault (lexed.BadToken i) lexed.NotUtf8 (λ n. cc) (λ n. cc) a b in cc
  same_source_fault (BadToken i) (BadToken j) a b = let e : lexed.BadToken i ≡ lexed.BadToken j = same_fault (lexed.BadToken i) (lexed.BadToken j) (λ n. cc) (λ n. cc) a b in cc
  same_source_fault (BadToken i) (SourceTooLong j) a b = let e : lexed.BadToken i ≡ lexed.SourceTooLong j = same_fault (lexed.BadToken i) (lexed.SourceTooLong j) (λ n. cc) (λ n. cc) a b in cc
  same_source_fault (BadToken i) (ParseAt j) a (ts, k, has, faults, place) = absurd (both ts (lexed.BadToken i) (λ n. cc) has a)
  same_source_fault (SourceTooLong i) NotUtf8 a b = let e : lexed.SourceTooLong i ≡ lexed.NotUtf8 = same_fault (lexed.SourceTooLong i) lexed.NotUtf8 (λ n. cc) (λ n. cc) a b in cc
  same_source_fault (SourceTooLong i) (BadToken j) a b = let e : lexed.SourceTooLong i ≡ lexed.BadToken j = same_fault (lexed.SourceTooLong i) (lexed.BadToken j) (λ n. cc) (λ n. cc) a b in cc
  same_source_fault (SourceTooLong i) (SourceTooLong j) a b = let e : lexed.SourceTooLong i ≡ lexed.SourceTooLong j = same_fault (lexed.SourceTooLong i) (lexed.SourceTooLong j) (λ n. cc) (λ n. cc) a b in cc
  same_source_fault (SourceTooLong i) (ParseAt j) a (ts, k, has, faults, place) = absurd (both ts (lexed.SourceTooLong i) (λ n. cc) has a)
  same_source_fault (ParseAt i) NotUtf8 (ts, k, has, faults, place) b = absurd (both ts lexed.NotUtf8 (λ n. cc) has b)
  same_source_fault (ParseAt i) (BadToken j) (ts, k, has, faults, place) b = absurd (both ts (lexed.BadToken j) (λ n. cc) has b)
  same_source_fault (ParseAt i) (SourceTooLong j) (ts, k, has, faults, place) b = absurd (both ts (lexed.SourceTooLong j) (λ n. cc) has b)
  same_source_fault (ParseAt i) (ParseAt j) (ts, k, has, faults, place) (us, l, had, faultt, placed) =
      let same = same_tokens us ts had has in
      let e : fault k ≡ fault l = read (kinds ts) (fault k) (fault l) faults (subst (λ x. Answers (kinds x) (fault l)) same faultt) in
      let place_same : k ≡ l = cc in
      ap ParseAt (place ∙ ((λ h. token_start (length text) (sym same h) (place_same h)) ∙ sym placed))

  one_says : (s t : ParseTree) (x y : LocalSig) (xs ys : List Fault) → Says text s x xs → Says text t y ys → (seen s ≡ seen t) × (x ≡ y) × (xs ≡ ys)
  one_says (Tree m xs) (Tree n ys) x y fs gs (a, b, c) (d, e, f) =
      let same = same_tree (module_view m) (module_view n) xs ys a d in
      ((λ h. law.whole (same.0 h) (same.1 h)), b ∙ (ap local_signature same.0 ∙ sym e), c ∙ ((λ h. signature_faults (same.0 h) (same.1 h)) ∙ sym f))
  one_says (Tree m xs) (Broken g) x y fs gs (a, b, c) (d, e, f) = absurd (tree_and_fault (module_view m) xs g a d)
  one_says (Broken g) (Tree m xs) x y fs gs (a, b, c) (d, e, f) = absurd (tree_and_fault (module_view m) xs g d a)
  one_says (Broken g) (Broken h) x y fs gs (a, b, c) (d, e, f) = (ap law.broken (same_source_fault g h a d), b ∙ sym e, c ∙ sym f)

pub one_parse : OneLexing → OneAnswer → OneParse
one_parse lex read text a b p q = one_says lex read text a.tree b.tree a.sig b.sig a.faults b.faults p q
