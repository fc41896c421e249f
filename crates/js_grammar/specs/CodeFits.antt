-- Which trees of expressions and statements are of the grammar, with the numbers of their tokens' places.
use Rattle.std.specs.Prelude.{◌≡◌, ℕ, suc, ◌≤◌, Bool, true, false, Option, Some, None, [], ◌∷◌, codes}
use Rattle.js_token.specs.declared.token.TokenKind.{TokenKind}
use Rattle.js_token.specs.declared.token.TokenKind.TheVariants.{Name, Punct}
use Rattle.js_token.specs.declared.punct.Punct.TheVariants.{OpenBrace}
use Rattle.js_grammar.specs.Words.{Bytes, IsName}
use Rattle.js_grammar.specs.Types.{Ty, has_fun}
use Rattle.js_grammar.specs.TypeSpelling.{Tokens}
use Rattle.js_grammar.specs.TypeFits.{bump, Fits, FitsKey, CommaFits}
use Rattle.js_grammar.specs.Code.{Prefixes, no_prefix, more_prefix, Level, relation_level, Ex, ex, ExForm, variable, number, text, truth_value, null_value, parens, elements, fields, function_ex, postfixed, prefixed, chain, cond, arrow, Exs, no_ex, more_ex, Link, link, LinkForm, member, index, call, Links, no_link, more_link, Operand, operand, OperandForm, right_side, as_type, Operands, no_operand, more_operand, Field, field, FieldForm, shorthand, valued, Fields, no_field, more_field, Arm, arm, Arms, no_arm, more_arm, Function, function, Sig, sig, Parameter, parameter, Parameters, no_parameter, more_parameter, ArrowBody, arrow_block, arrow_value, Block, block, Stmts, no_stmt, more_stmt, Stmt, stmt, StmtForm, declares, function_stmt, does, branches, loop, nested, Declaration, declaration, Simple, simple, SimpleForm, return_bare, return_value, throw_value, break_loop, continue_loop, assign, evaluate, Body, block_body, simple_body, Branch, branch, Branches, no_branch, more_branch, Else, no_else, else_body, has_exs, has_links, has_operands, has_fields, has_arms, has_parameters, has_branches, has_prefixes, operand_rank, postfixed_rank, primary_rank, ex_rank, level_of, is_cond, is_target}
use Rattle.js_grammar.specs.CodeSpelling.{spell_ex}
use Rattle.js_grammar.specs.CodePlaces.{stop_prefixes, stop_annotation, stop_name, stop_named, stop_parameters, stop_sig, stop_ex, stop_ex_form, stop_listed, stop_link_form, stop_links, stop_operand_form, stop_operands, stop_field_form, stop_entries, stop_arms, stop_block, stop_stmts, stop_stmt_form, stop_simple_form, stop_body, stop_branches, stop_elses}

-- the expression does not begin with this token
abbrev pub BeginsNot : TokenKind → Ex → Type 0
BeginsNot x e = (l : Tokens) → spell_ex e [] ≡ x ∷ l → ⊥

-- neither with `{` nor with `function`
abbrev pub BeginsPlain : Ex → Type 0
BeginsPlain e = BeginsNot (Punct OpenBrace) e × BeginsNot (Name (codes "function")) e

-- where a statement stands: inside a function or not, inside a loop of that function or not
pub data Context : Type 0 where
  inside : Bool → Bool → Context

-- inside a function, where a `return` may stand
abbrev pub InFunction : Context → Type 0
InFunction (inside in_function in_loop) = in_function ≡ true

-- inside a loop, where a `break` and a `continue` may stand
abbrev pub InLoop : Context → Type 0
InLoop (inside in_function in_loop) = in_loop ≡ true

-- the same place inside a loop
abbrev pub looping : Context → Context
looping (inside in_function in_loop) = inside in_function true

-- directly in the body of a function
abbrev pub body_context : Context
body_context = inside true false

-- the numbers of the marks in a row are the places where they stand
abbrev pub FitsPrefixes : Prefixes → ℕ → Type 0
FitsPrefixes no_prefix i = Unit {0}
FitsPrefixes (more_prefix ps p x) i = FitsPrefixes ps i × (p ≡ stop_prefixes ps i)

-- the type stands behind a colon at place i
abbrev pub FitsAnnotation : Option Ty → ℕ → Type 0
FitsAnnotation None i = Unit {0}
FitsAnnotation (Some t) i = Fits t (suc i)

-- a name, where there is one, is no reserved word
abbrev pub FitsName : Option Bytes → Type 0
FitsName None = Unit {0}
FitsName (Some n) = IsName n

abbrev pub is_some : {A : Type 0} → Option A → Bool
is_some None = false
is_some (Some a) = true

-- a question mark stands before a type only
abbrev pub FitsParameter : Parameter → ℕ → Type 0
FitsParameter (parameter f t n o a) i =
    (f ≡ i) × (t ≡ stop_annotation a (bump o (suc i))) × IsName n × (o ≡ true → is_some a ≡ true) × FitsAnnotation a (bump o (suc i))

-- each parameter fits where it stands
abbrev pub FitsParameters : Parameters → ℕ → Type 0
FitsParameters no_parameter i = Unit {0}
FitsParameters (more_parameter ps p) i = FitsParameters ps i × FitsParameter p (stop_named ps i)

-- a signature that begins at place i; a last comma stands behind a parameter
abbrev pub FitsSig : Sig → ℕ → Type 0
FitsSig (sig f t ps c r) i =
    (f ≡ i) × (t ≡ stop_annotation r (suc (bump c (stop_parameters ps (suc i))))) × FitsParameters ps (suc i) × CommaFits c (has_parameters ps)
    × FitsAnnotation r (suc (bump c (stop_parameters ps (suc i))))

-- each parameter has a type
abbrev pub AllTyped : Parameters → Type 0
AllTyped no_parameter = Unit {0}
AllTyped (more_parameter ps (parameter f t n o a)) = AllTyped ps × (is_some a ≡ true)

-- no function type outside brackets
abbrev pub IsPlainResult : Option Ty → Type 0
IsPlainResult None = Unit {0}
IsPlainResult (Some t) = has_fun t ≡ false

-- an arrow's parameters have types, and its result type is no function type outside brackets
abbrev pub IsArrowSig : Sig → Type 0
IsArrowSig (sig f t ps c r) = AllTyped ps × IsPlainResult r

-- the function has a name
abbrev pub IsNamed : Function → Type 0
IsNamed (function f t n s b) = is_some n ≡ true

-- A form that begins at place i keeps the grammar's conditions, and its numbers are the places of its tokens.
abbrev mutual
  pub FitsEx : Ex → ℕ → Type 0
  FitsEx (ex f t x) i = (f ≡ i) × (t ≡ stop_ex_form x i) × FitsExForm x i

  pub FitsExForm : ExForm → ℕ → Type 0
  FitsExForm (variable n) i = IsName n
  FitsExForm (number n) i = Unit {0}
  FitsExForm (text s) i = Unit {0}
  FitsExForm (truth_value b) i = Unit {0}
  FitsExForm null_value i = Unit {0}
  FitsExForm (parens e) i = FitsEx e (suc i)
  FitsExForm (elements es c) i = FitsExs es (suc i) × CommaFits c (has_exs es)
  FitsExForm (fields fs c) i = FitsFields fs (suc i) × CommaFits c (has_fields fs)
  FitsExForm (function_ex f) i = FitsFunction f i
  FitsExForm (postfixed e ls) i = (primary_rank ≤ ex_rank e) × FitsEx e i × (has_links ls ≡ true) × FitsLinks ls (stop_ex e i)
  FitsExForm (prefixed ps e) i = (has_prefixes ps ≡ true) × FitsPrefixes ps i × (postfixed_rank ≤ ex_rank e) × FitsEx e (stop_prefixes ps i)
  FitsExForm (chain p e os) i = (operand_rank p ≤ ex_rank e) × FitsEx e i × (has_operands os ≡ true) × FitsOperands os p (stop_ex e i)
  FitsExForm (cond hs e) i = (has_arms hs ≡ true) × FitsArms hs i × (is_cond e ≡ false) × FitsEx e (stop_arms hs i)
  FitsExForm (arrow s b) i = IsArrowSig s × FitsSig s i × FitsArrowBody b (suc (stop_sig s i))

  pub FitsExs : Exs → ℕ → Type 0
  FitsExs no_ex i = Unit {0}
  FitsExs (more_ex es e) i = FitsExs es i × FitsEx e (stop_listed es i)

  pub FitsLink : Link → ℕ → Type 0
  FitsLink (link f t x) i = (f ≡ i) × (t ≡ stop_link_form x i) × FitsLinkForm x i

  pub FitsLinkForm : LinkForm → ℕ → Type 0
  FitsLinkForm (member n) i = Unit {0}
  FitsLinkForm (index e) i = FitsEx e (suc i)
  FitsLinkForm (call es c) i = FitsExs es (suc i) × CommaFits c (has_exs es)

  pub FitsLinks : Links → ℕ → Type 0
  FitsLinks no_link i = Unit {0}
  FitsLinks (more_link ls k) i = FitsLinks ls i × FitsLink k (stop_links ls i)

  -- in a chain of this level
  pub FitsOperand : Operand → Level → ℕ → Type 0
  FitsOperand (operand f t x) p i = (f ≡ i) × (t ≡ stop_operand_form x i) × FitsOperandForm x p i

  -- the operator is one of the level, and its right side binds as tight as the level asks; `as` is a relation
  pub FitsOperandForm : OperandForm → Level → ℕ → Type 0
  FitsOperandForm (right_side o e) p i = (level_of o ≡ p) × (operand_rank p ≤ ex_rank e) × FitsEx e (suc i)
  FitsOperandForm (as_type v) p i = (p ≡ relation_level) × Fits v (suc i)

  pub FitsOperands : Operands → Level → ℕ → Type 0
  FitsOperands no_operand p i = Unit {0}
  FitsOperands (more_operand os o) p i = FitsOperands os p i × FitsOperand o p (stop_operands os i)

  pub FitsField : Field → ℕ → Type 0
  FitsField (field f t x) i = (f ≡ i) × (t ≡ stop_field_form x i) × FitsFieldForm x i

  pub FitsFieldForm : FieldForm → ℕ → Type 0
  FitsFieldForm (shorthand n) i = IsName n
  FitsFieldForm (valued k e) i = FitsKey k i × FitsEx e (suc (suc i))

  pub FitsFields : Fields → ℕ → Type 0
  FitsFields no_field i = Unit {0}
  FitsFields (more_field fs f) i = FitsFields fs i × FitsField f (stop_entries fs i)

  -- the test is no conditional and no arrow
  pub FitsArm : Arm → ℕ → Type 0
  FitsArm (arm f t a b) i = (f ≡ i) × (t ≡ suc (stop_ex b (suc (stop_ex a i)))) × (1 ≤ ex_rank a) × FitsEx a i × FitsEx b (suc (stop_ex a i))

  pub FitsArms : Arms → ℕ → Type 0
  FitsArms no_arm i = Unit {0}
  FitsArms (more_arm hs a) i = FitsArms hs i × FitsArm a (stop_arms hs i)

  -- its body is a function's, outside any loop
  pub FitsFunction : Function → ℕ → Type 0
  FitsFunction (function f t n s b) i =
      (f ≡ i) × (t ≡ stop_block b (stop_sig s (stop_name n (suc i)))) × FitsName n × FitsSig s (stop_name n (suc i))
      × FitsBlock b body_context (stop_sig s (stop_name n (suc i)))

  pub FitsArrowBody : ArrowBody → ℕ → Type 0
  FitsArrowBody (arrow_block b) i = FitsBlock b body_context i
  FitsArrowBody (arrow_value e) i = BeginsNot (Punct OpenBrace) e × FitsEx e i

  -- a block in a context
  pub FitsBlock : Block → Context → ℕ → Type 0
  FitsBlock (block f t ss) c i = (f ≡ i) × (t ≡ suc (stop_stmts ss (suc i))) × FitsStmts ss c (suc i)

  pub FitsStmts : Stmts → Context → ℕ → Type 0
  FitsStmts no_stmt c i = Unit {0}
  FitsStmts (more_stmt ss s) c i = FitsStmts ss c i × FitsStmt s c (stop_stmts ss i)

  pub FitsStmt : Stmt → Context → ℕ → Type 0
  FitsStmt (stmt f t s) c i = (f ≡ i) × (t ≡ stop_stmt_form s i) × FitsStmtForm s c i

  -- the body of a loop stands in one
  pub FitsStmtForm : StmtForm → Context → ℕ → Type 0
  FitsStmtForm (declares d) c i = FitsDeclaration d i
  FitsStmtForm (function_stmt f) c i = IsNamed f × FitsFunction f i
  FitsStmtForm (does s) c i = FitsSimple s c i
  FitsStmtForm (branches bs e) c i = (has_branches bs ≡ true) × FitsBranches bs c i × FitsElse e c (stop_branches bs i)
  FitsStmtForm (loop e b) c i = FitsEx e (suc (suc i)) × FitsBody b (looping c) (suc (stop_ex e (suc (suc i))))
  FitsStmtForm (nested b) c i = FitsBlock b c i

  pub FitsDeclaration : Declaration → ℕ → Type 0
  FitsDeclaration (declaration f t w n a e) i =
      (f ≡ i) × (t ≡ stop_ex e (suc (stop_annotation a (suc (suc i))))) × IsName n × FitsAnnotation a (suc (suc i))
      × FitsEx e (suc (stop_annotation a (suc (suc i))))

  pub FitsSimple : Simple → Context → ℕ → Type 0
  FitsSimple (simple f t s) c i = (f ≡ i) × (t ≡ stop_simple_form s i) × FitsSimpleForm s c i

  -- each where its context lets it stand
  pub FitsSimpleForm : SimpleForm → Context → ℕ → Type 0
  FitsSimpleForm return_bare c i = InFunction c
  FitsSimpleForm (return_value e) c i = InFunction c × FitsEx e (suc i)
  FitsSimpleForm (throw_value e) c i = FitsEx e (suc i)
  FitsSimpleForm break_loop c i = InLoop c
  FitsSimpleForm continue_loop c i = InLoop c
  FitsSimpleForm (assign a e) c i = (is_target a ≡ true) × BeginsPlain a × FitsEx a i × FitsEx e (suc (stop_ex a i))
  FitsSimpleForm (evaluate e) c i = BeginsPlain e × FitsEx e i

  -- an arm, or a loop's body, in a context
  pub FitsBody : Body → Context → ℕ → Type 0
  FitsBody (block_body b) c i = FitsBlock b c i
  FitsBody (simple_body s) c i = FitsSimple s c i

  pub FitsBranch : Branch → Context → ℕ → Type 0
  FitsBranch (branch f t e b) c i =
      (f ≡ i) × (t ≡ stop_body b (suc (stop_ex e (suc (suc i))))) × FitsEx e (suc (suc i)) × FitsBody b c (suc (stop_ex e (suc (suc i))))

  pub FitsBranches : Branches → Context → ℕ → Type 0
  FitsBranches no_branch c i = Unit {0}
  FitsBranches (more_branch bs b) c i = FitsBranches bs c i × FitsBranch b c (stop_elses bs i)

  -- the body stands behind `else`
  pub FitsElse : Else → Context → ℕ → Type 0
  FitsElse no_else c i = Unit {0}
  FitsElse (else_body b) c i = FitsBody b c (suc i)
