-- Each step of a signature, and each type that is whole, keep what their states stand for.
use Rattle.std.proofs.Common.{◌≡◌, refl, ◌∙◌, ap, subst, ℕ, suc, Bool, true, false, Option, Some, None, [], ◌∷◌, ◌++◌, if◌then◌else◌}
use Rattle.std.proofs.lemmas.Bool.{false≢true}
use Rattle.js_token.specs.Words.{is_reserved}
use Rattle.js_token.specs.declared.token.TokenKind.{TokenKind}
use Rattle.js_token.specs.declared.token.TokenKind.TheVariants.{Name, Punct}
use Rattle.js_token.specs.declared.punct.Punct.TheVariants.{OpenBrace, OpenParen, CloseParen, Comma, Semicolon, Colon, Question, Assign, Arrow as ArrowMark}
use Rattle.js_grammar.specs.Words.{Bytes}
use Rattle.js_grammar.specs.Types.{Ty, has_fun}
use Rattle.js_grammar.specs.TypeSpelling.{Tokens, opt, spell}
use Rattle.js_grammar.specs.TypeFits.{bump, stop, Fits}
use Rattle.js_grammar.specs.Machine as ty
use Rattle.js_grammar.proofs.Sound as typed_spelling
use Rattle.js_grammar.proofs.Kept as typed_places
use Rattle.js_grammar.specs.Code.{relation_level, ex, chain, more_operand, operand, as_type, sig, Parameter, parameter, Parameters, no_parameter, more_parameter, has_parameters}
use Rattle.js_grammar.specs.CodeSpelling.{spell_sig, spell_named, spell_parameters}
use Rattle.js_grammar.specs.CodePlaces.{stop_named, stop_parameters, stop_sig}
use Rattle.js_grammar.specs.CodeFits.{FitsSig, IsPlainResult, FitsOperand}
use Rattle.js_grammar.specs.Items.{alias, alias_item, exports, export_alias}
use Rattle.code_law.specs.Frames.{FunctionKind, is_value, is_statement, is_default, plain_item, exported_item, default_item, Owner, of_arrow, of_function, Waiting, parameter_type, result_type, declared_type, alias_type, cast_type, function_start, parameters_open, parameter_start, parameter_word, parameter_mark, parameters_end, Stack, fault, go}
use Rattle.code_law.specs.Expressions.{function_step, open_step, parameter_step, after_parameter, parameter_word_step, parameter_mark_step, open_body, end_step, after_type, takes_function, inside}
use Rattle.code_law.proofs.Typing.{Typing, typing_at, keep_typing}
use Rattle.code_law.proofs.States.{spell_mode, spell_owner, spell_waiting, TypedFor, FitsGiven, FitsWaiting, type_start, FitsMode, FitsStep, Stands}
use Rattle.code_law.proofs.Stands.{stands_moved}
use Rattle.code_law.proofs.KeptLadder.{k_settle}
use Rattle.code_law.proofs.KeptBodies.{k_item}

not_true : (b : Bool) → (b ≡ true → false ≡ true) → b ≡ false
not_true true h = absurd (false≢true (h refl))
not_true false h = refl

named_stop : (ps : Parameters) (i : ℕ) → stop_named ps i ≡ bump (has_parameters ps) (stop_parameters ps i)
named_stop no_parameter i = refl
named_stop (more_parameter ps y) i = refl

named_spelled : (ps : Parameters) (l : Tokens) → spell_parameters ps (opt (has_parameters ps) (Punct Comma) l) ≡ spell_named ps l
named_spelled no_parameter l = refl
named_spelled (more_parameter ps y) l = refl

none_typed : (o : Owner) → TypedFor o no_parameter
none_typed of_arrow = tt
none_typed (of_function q f n) = tt

some_typed : (o : Owner) (ps : Parameters) (a i : ℕ) (n : Bytes) (m : Bool) (t : Ty) → TypedFor o ps → TypedFor o (more_parameter ps (parameter a i n m (Some t)))
some_typed of_arrow ps a i n m t h = (h, refl)
some_typed (of_function q f c) ps a i n m t h = tt

-- an arrow's result has no function type outside brackets
abbrev PlainFor : Owner → Option Ty → Type 0
PlainFor of_arrow r = IsPlainResult r
PlainFor (of_function q f n) r = Unit {0}

plain_none : (o : Owner) → PlainFor o None
plain_none of_arrow = tt
plain_none (of_function q f n) = tt

plain_some : (o : Owner) (s : ℕ) (ps : Parameters) (c : Bool) (t : Ty) → (has_fun t ≡ true → takes_function (result_type o s ps c) ≡ true) → PlainFor o (Some t)
plain_some of_arrow s ps c t h = not_true (has_fun t) h
plain_some (of_function q f n) s ps c t h = tt

value_statement : is_value ≡ is_statement → ⊥
value_statement e = cc

default_statement : is_default ≡ is_statement → ⊥
default_statement e = cc

module _ (q p : Tokens) (i : ℕ) (k : Stack) where
  pub k_open : (o : Owner) → FitsMode k (parameters_open o) i → (x : TokenKind) → Stands p k (λ l. spell_mode (parameters_open o) (x ∷ l)) → FitsStep q p i (open_step i k o x)
  k_open o h (Punct OpenParen) s = (((h, tt, none_typed o), refl), s)
  k_open o h _ s = tt

  pub k_function_start : (c : FunctionKind) (z : ℕ) → FitsMode k (function_start c z) i → (x : TokenKind) → Stands p k (λ l. spell_mode (function_start c z) (x ∷ l)) → FitsStep q p i (function_step i k c z x)
  k_function_start c z h (Name n) s = by (is_reserved n) refl
    where
      by : (b : Bool) → is_reserved n ≡ b → FitsStep q p i (if b then fault else go k (parameters_open (of_function c z (Some n))))
      by true e = tt
      by false e = ((h.0, h.1, (e, λ d. refl), ap suc (h.2)), s)
  k_function_start is_statement z h x s = tt
  k_function_start is_value z h x s = k_open (of_function is_value z None) (h.0, h.1, (tt, λ e. absurd (value_statement e)), h.2) x s
  k_function_start is_default z h x s = k_open (of_function is_default z None) (h.0, h.1, (tt, λ e. absurd (default_statement e)), h.2) x s

  pub k_parameter : (o : Owner) (z : ℕ) (ps : Parameters) → FitsMode k (parameter_start o z ps) i → (x : TokenKind) → Stands p k (λ l. spell_mode (parameter_start o z ps) (x ∷ l)) → FitsStep q p i (parameter_step i k o z ps x)
  k_parameter o z ps h (Punct CloseParen) s =
      ((h.0, (λ e. e), ap suc (h.1 ∙ named_stop ps (suc z))), stands_moved p k (λ l. spell_owner o (Punct OpenParen ∷ spell_named ps (Punct CloseParen ∷ l))) _ (λ l. ap (λ l. spell_owner o (Punct OpenParen ∷ l)) (named_spelled ps (Punct CloseParen ∷ l))) s)
  k_parameter o z ps h (Name n) s = by (is_reserved n) refl
    where
      by : (b : Bool) → is_reserved n ≡ b → FitsStep q p i (if b then fault else go k (parameter_word o z ps i n))
      by true e = tt
      by false e = ((h.0, h.1, e, refl), s)
  k_parameter o z ps h _ s = tt

  k_after_parameter : (o : Owner) (z : ℕ) (ps : Parameters) (y : Parameter) → FitsGiven o k z (more_parameter ps y) → i ≡ stop_parameters (more_parameter ps y) (suc z) → (x : TokenKind) →
      Stands p k (λ l. spell_owner o (Punct OpenParen ∷ spell_parameters (more_parameter ps y) (x ∷ l))) → FitsStep q p i (after_parameter k o z (more_parameter ps y) x)
  k_after_parameter o z ps y h j (Punct CloseParen) s = ((h, (λ e. absurd (false≢true e)), ap suc j), s)
  k_after_parameter o z ps y h j (Punct Comma) s = ((h, ap suc j), s)
  k_after_parameter o z ps y h j _ s = tt

  pub k_parameter_word : (o : Owner) (z : ℕ) (ps : Parameters) (a : ℕ) (n : Bytes) → FitsMode k (parameter_word o z ps a n) i → (x : TokenKind) → Stands p k (λ l. spell_mode (parameter_word o z ps a n) (x ∷ l)) →
      FitsStep q p i (parameter_word_step i k o z ps a n x)
  k_parameter_word o z ps a n h (Punct Colon) s = let y = typing_at true (suc (suc a)) (suc i) (ap suc (h.3)) in (((h.0, h.1, h.2), y.0, y.1), s)
  k_parameter_word o z ps a n h (Punct Question) s = ((h.0, h.1, h.2, ap suc (h.3)), s)
  k_parameter_word of_arrow z ps a n h _ s = tt
  k_parameter_word (of_function c f m) z ps a n h x s =
      k_after_parameter (of_function c f m) z ps (parameter a i n false None) (h.0.0, (h.0.1, (h.1, h.3 ∙ ap suc (h.1), h.2, (λ e. absurd (false≢true e)), tt)), tt) (h.3 ∙ ap suc (h.1)) x s

  pub k_parameter_mark : (o : Owner) (z : ℕ) (ps : Parameters) (a : ℕ) (n : Bytes) → FitsMode k (parameter_mark o z ps a n) i → (x : TokenKind) → Stands p k (λ l. spell_mode (parameter_mark o z ps a n) (x ∷ l)) →
      FitsStep q p i (parameter_mark_step k o z ps a n x)
  k_parameter_mark o z ps a n h (Punct Colon) s = let y = typing_at true (suc (suc (suc a))) (suc i) (ap suc (h.3)) in (((h.0, h.1, h.2), y.0, y.1), s)
  k_parameter_mark o z ps a n h _ s = tt

  k_open_body : (o : Owner) (z : ℕ) (ps : Parameters) (c : Bool) (r : Option Ty) → FitsGiven o k z ps → FitsSig (sig z i ps c r) z → PlainFor o r → (x : TokenKind) → Stands p k (λ l. spell_owner o (spell_sig (sig z i ps c r) (x ∷ l))) →
      FitsStep q p i (open_body i k o (sig z i ps c r) x)
  k_open_body of_arrow z ps c r h f n (Punct ArrowMark) s = ((h.0.0, h.0.1, h.0.2, (h.2, n), f, ap suc (f.1)), s)
  k_open_body (of_function v b m) z ps c r h f n (Punct OpenBrace) s =
      let g = sig z i ps c r in
      ((((h.0.1, h.0.2, subst (FitsSig g) (h.0.3) f, f.1 ∙ ap (stop_sig g) (h.0.3)), h.0.0), refl, tt, refl), (tt, s))
  k_open_body of_arrow z ps c r h f n x s = tt
  k_open_body (of_function v b m) z ps c r h f n x s = tt

  pub k_end : (o : Owner) (z : ℕ) (ps : Parameters) (c : Bool) → FitsMode k (parameters_end o z ps c) i → (x : TokenKind) → Stands p k (λ l. spell_mode (parameters_end o z ps c) (x ∷ l)) → FitsStep q p i (end_step i k o z ps c x)
  k_end o z ps c h (Punct Colon) s =
      let w = result_type o z ps c in let y = typing_at (takes_function w) (type_start w) (suc i) (ap suc (h.2)) in (((h.0, h.1), y.0, y.1), s)
  k_end o z ps c h x s = k_open_body o z ps c None (h.0) (refl, h.2, h.0.1, h.1, tt) (plain_none o) x s

  -- a type is whole
  k_after_type : (w : Waiting) (t : Ty) → FitsWaiting k w → Fits t (type_start w) → (has_fun t ≡ true → takes_function w ≡ true) → i ≡ stop t (type_start w) → (x : TokenKind) → Stands p k (λ l. spell_waiting w (spell t (x ∷ l))) →
      FitsStep q p i (after_type i k w t x)
  k_after_type (parameter_type o z ps a n m) t h f u j x s =
      let y = parameter a i n m (Some t) in
      let e = j ∙ ap (λ a. stop t (suc (bump m (suc a)))) (h.1) in
      k_after_parameter o z ps y (h.0.0, (h.0.1, (h.1, e, h.2, (λ e. refl), subst (λ a. Fits t (suc (bump m (suc a)))) (h.1) f)), some_typed o ps a i n m t (h.0.2)) e x s
  k_after_type (result_type o z ps c) t h f u j x s = k_open_body o z ps c (Some t) (h.0) (refl, j, h.0.1, h.1, f) (plain_some o z ps c t u) x s
  k_after_type (declared_type z w n) t h f u j (Punct Assign) s = ((((h.1, h.2, f, ap suc j), h.0), refl), (tt, s))
  k_after_type (declared_type z w n) t h f u j _ s = tt
  k_after_type (alias_type a plain_item is b n) t h f u j (Punct Semicolon) s =
      let y = alias b i n t in
      k_item q p i k a is (alias_item y) (h.0) (h.2, j ∙ ap (λ b. stop t (suc (suc (suc b)))) (h.2), h.3, h.4, subst (λ b. Fits t (suc (suc (suc b)))) (h.2) f) (ap suc (j ∙ ap (λ b. stop t (suc (suc (suc b)))) (h.2))) s
  k_after_type (alias_type a exported_item is b n) t h f u j (Punct Semicolon) s =
      let y = alias b i n t in
      k_item q p i k a is (exports (export_alias y)) (h.0) (h.2, j ∙ ap (λ b. stop t (suc (suc (suc b)))) (h.2), h.3, h.4, subst (λ b. Fits t (suc (suc (suc b)))) (h.2) f) (ap suc (j ∙ ap (λ b. stop t (suc (suc (suc b)))) (h.2))) s
  k_after_type (alias_type a default_item is b n) t h f u j (Punct Semicolon) s = absurd (false≢true (h.1))
  k_after_type (alias_type a w is b n) t h f u j _ s = tt
  k_after_type (cast_type z e os d) t h f u j x s =
      let v = operand d i (as_type t) in
      let g = h.3 in
      let y = j ∙ ap (λ d. stop t (suc d)) (g.3) in
      k_settle q p i k (ex z i (chain relation_level e (more_operand os v)))
      (h.0, h.1, h.2, (refl, y, (g.0, g.1, refl, (g.2, subst (FitsOperand v relation_level) (g.3) (refl, j, (refl, f))))), y) x s

  -- a step of the machine of types
  pub k_typing : (w : Waiting) (a : ty.Stack) (m : ty.Mode) (r : Tokens) (x : TokenKind) → FitsWaiting k w → Typing (takes_function w) (type_start w) i a m r → Stands p k (λ l. spell_waiting w (typed_spelling.so_far a m (x ∷ l))) →
      FitsStep q p i (inside i k w (ty.step (takes_function w) i a m x) x)
  k_typing w a m r x h f s = by (ty.step (takes_function w) i a m x) refl (typed_places.kept (takes_function w) (type_start w) a m i x (f.fits)) (typed_spelling.sound (takes_function w) i a m x)
    where
      by : (y : ty.Step) → ty.step (takes_function w) i a m x ≡ y → typed_places.FitsStep (takes_function w) (type_start w) i y → typed_spelling.Follows (typed_spelling.so_far a m) x y → FitsStep q p i (inside i k w y x)
      by ty.fault e g d = tt
      by (ty.go b n) e g d = ((h, r ++ x ∷ [], keep_typing (takes_function w) (type_start w) i a m r x f b n e), stands_moved p k (λ l. spell_waiting w (typed_spelling.so_far a m (x ∷ l))) _ (λ l. ap (spell_waiting w) (d l)) s)
      by (ty.done t) e g d = k_after_type w t h (g.0.0) (g.0.1) (g.1) x (stands_moved p k (λ l. spell_waiting w (typed_spelling.so_far a m (x ∷ l))) _ (λ l. ap (spell_waiting w) (d (x ∷ l))) s)
