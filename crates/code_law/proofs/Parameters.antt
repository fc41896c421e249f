-- Parameters and results are read as such.
use Rattle.std.proofs.Common.{◌≡◌, refl, sym, ◌∙◌, ap, ap₂, ℕ, suc, Bool, true, false, Option, Some, None, [], ◌∷◌}
use Rattle.std.proofs.lemmas.Bool.{false≢true}
use Rattle.js_token.specs.declared.token.TokenKind.{TokenKind}
use Rattle.js_token.specs.declared.token.TokenKind.TheVariants.{Name, Punct}
use Rattle.js_token.specs.declared.punct.Punct.TheVariants.{OpenBrace, CloseParen, Comma, Colon, Question, Arrow as ArrowMark}
use Rattle.js_grammar.specs.Words.{Bytes, IsName}
use Rattle.js_grammar.specs.Types.{Ty}
use Rattle.js_grammar.specs.TypeSpelling.{Tokens, opt, spell}
use Rattle.js_grammar.specs.TypeFits.{bump, stop, CommaFits}
use Rattle.js_grammar.specs.Machine as ty
use Rattle.js_grammar.specs.Machine.{first}
use Rattle.js_grammar.specs.Code.{Parameter, parameter, Parameters, no_parameter, more_parameter, has_parameters, Sig, sig, no_stmt}
use Rattle.js_grammar.specs.CodeSpelling.{spell_annotation, spell_parameter, spell_named, spell_parameters, spell_sig, spell_name}
use Rattle.js_grammar.specs.CodePlaces.{stop_annotation, stop_parameter, stop_named, stop_parameters, stop_sig, stop_name}
use Rattle.js_grammar.specs.CodeFits.{FitsAnnotation, FitsParameter, FitsParameters, FitsSig, AllTyped, IsPlainResult, IsArrowSig, FitsName, is_some}
use Rattle.js_grammar.specs.GoesOn.{goes_on_type}
use Rattle.code_law.specs.Frames.{FunctionKind, is_value, is_statement, is_default, Owner, of_arrow, of_function, parameter_type, result_type, in_function, Mode, want, paren_start, function_start, parameters_open, parameter_start, parameter_word, parameters_end, arrow_start, statements_start, typing, Stack}
use Rattle.code_law.specs.Expressions.{may_arrow, after_parameter, parameter_word_step}
use Rattle.code_law.specs.Machine.{run, step, go_on}
use Rattle.code_law.proofs.Embedded.{c_type}

-- where a further parameter may begin
abbrev begun : Owner → ℕ → Parameters → Mode
begun of_arrow s no_parameter = paren_start s
begun of_arrow s (more_parameter ps p) = parameter_start of_arrow s (more_parameter ps p)
begun (of_function q a m) s ps = parameter_start (of_function q a m) s ps

-- an arrow's parameter has a type
abbrev TypedFor : Owner → Parameter → Type 0
TypedFor of_arrow (parameter f t n o a) = is_some a ≡ true
TypedFor (of_function q b m) p = Unit {0}

abbrev AllTypedFor : Owner → Parameters → Type 0
AllTypedFor of_arrow ps = AllTyped ps
AllTypedFor (of_function q b m) ps = Unit {0}

abbrev MayStand : Owner → Stack → Type 0
MayStand of_arrow k = may_arrow k ≡ true
MayStand (of_function q b m) k = Unit {0}

typed_last : (w : Owner) (ps : Parameters) (p : Parameter) → AllTypedFor w (more_parameter ps p) → AllTypedFor w ps × TypedFor w p
typed_last of_arrow ps (parameter f t n o a) h = h
typed_last (of_function q b m) ps p h = (tt, tt)

abbrev is_separator : TokenKind → Bool
is_separator (Punct CloseParen) = true
is_separator (Punct Comma) = true
is_separator _ = false

separator_goes : (x : TokenKind) → is_separator x ≡ true → goes_on_type true x ≡ false
separator_goes (Punct CloseParen) h = refl
separator_goes (Punct Comma) h = refl
separator_goes x h = absurd (false≢true h)

word_ends : (x : TokenKind) → is_separator x ≡ true → (i : ℕ) (k : Stack) (q : FunctionKind) (b : ℕ) (m : Option Bytes) (s : ℕ) (ps : Parameters) (a : ℕ) (n : Bytes) →
    parameter_word_step i k (of_function q b m) s ps a n x ≡ after_parameter k (of_function q b m) s (more_parameter ps (parameter a i n false None)) x
word_ends (Punct Colon) h i k q b m s ps a n = absurd (false≢true h)
word_ends (Punct Question) h i k q b m s ps a n = absurd (false≢true h)
word_ends x h i k q b m s ps a n = refl

run-then : (i : ℕ) (k : Stack) (m : Mode) (l : Tokens) → run i k m l ≡ go_on i (step i k m (first l)) l
run-then i k m [] = refl
run-then i k m (x ∷ l) = refl

module _ (k : Stack) where
  -- a name, a question mark or not, and a colon
  name_read : (w : Owner) → MayStand w k → (ps : Parameters) (o : Bool) (n : Bytes) → IsName n → (i s : ℕ) (l : Tokens) →
      run i k (begun w s ps) (Name n ∷ opt o (Punct Question) (Punct Colon ∷ l)) ≡ run (suc (bump o (suc i))) k (typing (parameter_type w s ps i n o) [] ty.want) l
  name_read of_arrow may no_parameter true n h i s l = rw (h, may) refl
  name_read of_arrow may no_parameter false n h i s l = rw (h, may) refl
  name_read of_arrow may (more_parameter ps p) true n h i s l = rw h refl
  name_read of_arrow may (more_parameter ps p) false n h i s l = rw h refl
  name_read (of_function q a m) may ps true n h i s l = rw h refl
  name_read (of_function q a m) may ps false n h i s l = rw h refl

  word_read : (q : FunctionKind) (b : ℕ) (m : Option Bytes) (ps : Parameters) (n : Bytes) → IsName n → (i s : ℕ) (l : Tokens) →
      run i k (begun (of_function q b m) s ps) (Name n ∷ l) ≡ run (suc i) k (parameter_word (of_function q b m) s ps i n) l
  word_read q b m ps n h i s l = rw h refl

  c_parameter : (w : Owner) → MayStand w k → (p : Parameter) (ps : Parameters) (i : ℕ) → FitsParameter p i → TypedFor w p → (s : ℕ) (l : Tokens) → is_separator (first l) ≡ true →
      run i k (begun w s ps) (spell_parameter p l) ≡ go_on (stop_parameter p i) (after_parameter k w s (more_parameter ps p) (first l)) l
  c_parameter of_arrow may (parameter f t n o None) ps i h y s l e = absurd (false≢true y)
  c_parameter (of_function q b m) may (parameter f t n true None) ps i h y s l e = absurd (false≢true (h.3 refl))
  c_parameter (of_function q b m) may (parameter f t n false None) ps i h y s l e =
      word_read q b m ps n (h.2) i s l ∙ run-then (suc i) k (parameter_word (of_function q b m) s ps i n) l
      ∙ ap (λ s. go_on (suc i) s l) (word_ends (first l) e (suc i) k q b m s ps i n)
      ∙ ap (λ p. go_on (suc i) (after_parameter k (of_function q b m) s (more_parameter ps p) (first l)) l) (ap₂ (λ f t. parameter f t n false None) (sym (h.0)) (sym (h.1)))
  c_parameter w may (parameter f t n o (Some v)) ps i h y s l e =
      let j = suc (bump o (suc i)) in
      name_read w may ps o n (h.2) i s (spell v l) ∙ c_type j k (parameter_type w s ps i n o) v (h.4) (λ g. refl) l (separator_goes (first l) e)
      ∙ ap (λ p. go_on (stop v j) (after_parameter k w s (more_parameter ps p) (first l)) l) (ap₂ (λ f t. parameter f t n o (Some v)) (sym (h.0)) (sym (h.1)))

  comma_read : (w : Owner) (s j : ℕ) (ps : Parameters) (p : Parameter) (l : Tokens) →
      go_on j (after_parameter k w s (more_parameter ps p) (Punct Comma)) (Punct Comma ∷ l) ≡ run (suc j) k (begun w s (more_parameter ps p)) l
  comma_read of_arrow s j ps p l = refl
  comma_read (of_function q b m) s j ps p l = refl

  c_named : (w : Owner) → MayStand w k → (ps : Parameters) (i : ℕ) → FitsParameters ps i → AllTypedFor w ps → (s : ℕ) (l : Tokens) →
      run i k (begun w s no_parameter) (spell_named ps l) ≡ run (stop_named ps i) k (begun w s ps) l
  c_named w may no_parameter i h y s l = refl
  c_named w may (more_parameter ps p) i h y s l =
      let b = typed_last w ps p y in let j = stop_named ps i in
      c_named w may ps i (h.0) (b.0) s (spell_parameter p (Punct Comma ∷ l)) ∙ c_parameter w may p ps j (h.1) (b.1) s (Punct Comma ∷ l) refl ∙ comma_read w s (stop_parameter p j) ps p l

  close_read : (w : Owner) (s j : ℕ) (ps : Parameters) (p : Parameter) (l : Tokens) → run j k (begun w s (more_parameter ps p)) (Punct CloseParen ∷ l) ≡ run (suc j) k (parameters_end w s (more_parameter ps p) true) l
  close_read of_arrow s j ps p l = refl
  close_read (of_function q b m) s j ps p l = refl

  empty_read : (w : Owner) → MayStand w k → (s j : ℕ) (l : Tokens) → run j k (begun w s no_parameter) (Punct CloseParen ∷ l) ≡ run (suc j) k (parameters_end w s no_parameter false) l
  empty_read of_arrow may s j l = rw may refl
  empty_read (of_function q b m) may s j l = refl

  c_parameters : (w : Owner) → MayStand w k → (ps : Parameters) (c : Bool) (i : ℕ) → FitsParameters ps i → AllTypedFor w ps → CommaFits c (has_parameters ps) → (s : ℕ) (l : Tokens) →
      run i k (begun w s no_parameter) (spell_parameters ps (opt c (Punct Comma) (Punct CloseParen ∷ l))) ≡ run (suc (bump c (stop_parameters ps i))) k (parameters_end w s ps c) l
  c_parameters w may no_parameter true i h y c s l = absurd (false≢true (c refl))
  c_parameters w may no_parameter false i h y c s l = empty_read w may s i l
  c_parameters w may (more_parameter ps p) true i h y c s l =
      let b = typed_last w ps p y in let j = stop_named ps i in let z = stop_parameter p j in
      c_named w may ps i (h.0) (b.0) s (spell_parameter p (Punct Comma ∷ Punct CloseParen ∷ l)) ∙ c_parameter w may p ps j (h.1) (b.1) s (Punct Comma ∷ Punct CloseParen ∷ l) refl
      ∙ comma_read w s z ps p (Punct CloseParen ∷ l) ∙ close_read w s (suc z) ps p l
  c_parameters w may (more_parameter ps p) false i h y c s l =
      let b = typed_last w ps p y in
      c_named w may ps i (h.0) (b.0) s (spell_parameter p (Punct CloseParen ∷ l)) ∙ c_parameter w may p ps (stop_named ps i) (h.1) (b.1) s (Punct CloseParen ∷ l) refl

  c_arrow_result : (ps : Parameters) (c : Bool) (r : Option Ty) (i j : ℕ) → FitsAnnotation r j → IsPlainResult r → (l : Tokens) →
      run j k (parameters_end of_arrow i ps c) (spell_annotation r (Punct ArrowMark ∷ l)) ≡ run (suc (stop_annotation r j)) k (arrow_start (sig i (stop_annotation r j) ps c r)) l
  c_arrow_result ps c None i j h y l = refl
  c_arrow_result ps c (Some t) i j h y l = c_type (suc j) k (result_type of_arrow i ps c) t h (λ g. absurd (false≢true (sym y ∙ g))) (Punct ArrowMark ∷ l) refl

  c_function_result : (q : FunctionKind) (b : ℕ) (m : Option Bytes) (ps : Parameters) (c : Bool) (r : Option Ty) (i j : ℕ) → FitsAnnotation r j → (l : Tokens) →
      run j k (parameters_end (of_function q b m) i ps c) (spell_annotation r (Punct OpenBrace ∷ l))
      ≡ run (suc (stop_annotation r j)) (in_function q b m (sig i (stop_annotation r j) ps c r) ∷ k) (statements_start (stop_annotation r j) no_stmt) l
  c_function_result q b m ps c None i j h l = refl
  c_function_result q b m ps c (Some t) i j h l = c_type (suc j) k (result_type (of_function q b m) i ps c) t h (λ g. refl) (Punct OpenBrace ∷ l) refl

  -- the whole of an arrow before its body
  pub c_sig : may_arrow k ≡ true → (g : Sig) (i : ℕ) → FitsSig g i → IsArrowSig g → (l : Tokens) → run i k want (spell_sig g (Punct ArrowMark ∷ l)) ≡ run (suc (stop_sig g i)) k (arrow_start g) l
  c_sig may (sig f t ps c r) i h y l =
      let j = suc (bump c (stop_parameters ps (suc i))) in
      c_parameters of_arrow may ps c (suc i) (h.2) (y.0) (h.3) i (spell_annotation r (Punct ArrowMark ∷ l)) ∙ c_arrow_result ps c r i j (h.4) (y.1) l
      ∙ ap (λ g. run (suc (stop_annotation r j)) k (arrow_start g) l) (ap₂ (λ f t. sig f t ps c r) (sym (h.0)) (sym (h.1)))

  c_open : (q : FunctionKind) (b : ℕ) (m : Option Bytes) (g : Sig) (i : ℕ) → FitsSig g i → (l : Tokens) →
      run i k (parameters_open (of_function q b m)) (spell_sig g (Punct OpenBrace ∷ l)) ≡ run (suc (stop_sig g i)) (in_function q b m g ∷ k) (statements_start (stop_sig g i) no_stmt) l
  c_open q b m (sig f t ps c r) i h l =
      let j = suc (bump c (stop_parameters ps (suc i))) in
      c_parameters (of_function q b m) tt ps c (suc i) (h.2) tt (h.3) i (spell_annotation r (Punct OpenBrace ∷ l)) ∙ c_function_result q b m ps c r i j (h.4) l
      ∙ ap (λ g. run (suc (stop_annotation r j)) (in_function q b m g ∷ k) (statements_start (stop_annotation r j) no_stmt) l) (ap₂ (λ f t. sig f t ps c r) (sym (h.0)) (sym (h.1)))

  function_name : (q : FunctionKind) (n : Option Bytes) → FitsName n → (q ≡ is_statement → is_some n ≡ true) → (b i : ℕ) (g : Sig) (l : Tokens) →
      run i k (function_start q b) (spell_name n (spell_sig g l)) ≡ run (stop_name n i) k (parameters_open (of_function q b n)) (spell_sig g l)
  function_name is_statement None h y b i g l = absurd (false≢true (y refl))
  function_name is_value None h y b i (sig f t ps c r) l = refl
  function_name is_default None h y b i (sig f t ps c r) l = refl
  function_name is_statement (Some n) h y b i g l = rw h refl
  function_name is_value (Some n) h y b i g l = rw h refl
  function_name is_default (Some n) h y b i g l = rw h refl

  -- the whole of a function behind its word and before its body
  pub c_function_sig : (q : FunctionKind) (n : Option Bytes) (g : Sig) (b : ℕ) → FitsName n → (q ≡ is_statement → is_some n ≡ true) → FitsSig g (stop_name n (suc b)) → (l : Tokens) →
      run (suc b) k (function_start q b) (spell_name n (spell_sig g (Punct OpenBrace ∷ l)))
      ≡ run (suc (stop_sig g (stop_name n (suc b)))) (in_function q b n g ∷ k) (statements_start (stop_sig g (stop_name n (suc b))) no_stmt) l
  c_function_sig q n g b h y f l = function_name q n h y b (suc b) g (Punct OpenBrace ∷ l) ∙ c_open q b n g (stop_name n (suc b)) f l
