-- The trees of expressions and statements. Each node has the numbers of its first token and of the token behind its last; lists
-- grow at their end.
use Rattle.std.specs.Prelude.{ℕ, Bool, true, false, Option}
use Rattle.js_grammar.specs.Words.{Bytes}
use Rattle.js_grammar.specs.Types.{Key, Ty}

-- the marks before an expression
pub data Prefix : Type 0 where
  negation : Prefix
  minus_sign : Prefix
  plus_sign : Prefix
  kind_of : Prefix

-- marks in a row, each with its place
pub data Prefixes : Type 0 where
  no_prefix : Prefixes
  more_prefix : Prefixes → ℕ → Prefix → Prefixes

-- the levels of chains, from the one that binds least
pub data Level : Type 0 where
  nullish_level : Level
  or_level : Level
  and_level : Level
  equal_level : Level
  relation_level : Level
  sum_level : Level
  product_level : Level

-- the operators between two expressions
pub data Operator : Type 0 where
  nullish : Operator
  or : Operator
  and : Operator
  strict_equal : Operator
  strict_not_equal : Operator
  loose_equal : Operator
  loose_not_equal : Operator
  less : Operator
  greater : Operator
  less_or_equal : Operator
  greater_or_equal : Operator
  add : Operator
  subtract : Operator
  multiply : Operator
  divide : Operator
  remainder : Operator

-- `const` or `let`
pub data Binder : Type 0 where
  const : Binder
  let_word : Binder

mutual
  -- an expression: where it begins and ends, and its form
  pub data Ex : Type 0 where
    ex : ℕ → ℕ → ExForm → Ex

  -- the forms of expressions
  pub data ExForm : Type 0 where
    variable : Bytes → ExForm
    number : Bytes → ExForm
    text : Bytes → ExForm
    truth_value : Bool → ExForm
    null_value : ExForm
    parens : Ex → ExForm
    -- elements, and a last comma or not
    elements : Exs → Bool → ExForm
    fields : Fields → Bool → ExForm
    function_ex : Function → ExForm
    -- an expression and the links that follow it
    postfixed : Ex → Links → ExForm
    prefixed : Prefixes → Ex → ExForm
    chain : Level → Ex → Operands → ExForm
    -- each test with its branch, and the last branch
    cond : Arms → Ex → ExForm
    arrow : Sig → ArrowBody → ExForm

  -- the elements of an array, or the arguments of a call
  pub data Exs : Type 0 where
    no_ex : Exs
    more_ex : Exs → Ex → Exs

  -- what follows an expression at once, with its place
  pub data Link : Type 0 where
    link : ℕ → ℕ → LinkForm → Link

  -- `.name`, `[e]`, and `(e, ..)` with a last comma or not
  pub data LinkForm : Type 0 where
    member : Bytes → LinkForm
    index : Ex → LinkForm
    call : Exs → Bool → LinkForm

  pub data Links : Type 0 where
    no_link : Links
    more_link : Links → Link → Links

  -- a further part of a chain, with its place
  pub data Operand : Type 0 where
    operand : ℕ → ℕ → OperandForm → Operand

  -- an operator and its right side, or `as` and a type
  pub data OperandForm : Type 0 where
    right_side : Operator → Ex → OperandForm
    as_type : Ty → OperandForm

  pub data Operands : Type 0 where
    no_operand : Operands
    more_operand : Operands → Operand → Operands

  -- a property of an object with its place
  pub data Field : Type 0 where
    field : ℕ → ℕ → FieldForm → Field

  -- a property of an object: a name alone, or a key and its value
  pub data FieldForm : Type 0 where
    shorthand : Bytes → FieldForm
    valued : Key → Ex → FieldForm

  pub data Fields : Type 0 where
    no_field : Fields
    more_field : Fields → Field → Fields

  -- a test `e ?` and its branch `e :`
  pub data Arm : Type 0 where
    arm : ℕ → ℕ → Ex → Ex → Arm

  pub data Arms : Type 0 where
    no_arm : Arms
    more_arm : Arms → Arm → Arms

  -- `function`, a name or none, a signature, a body
  pub data Function : Type 0 where
    function : ℕ → ℕ → Option Bytes → Sig → Block → Function

  -- parameters in parentheses, their last comma or not, a result type or none
  pub data Sig : Type 0 where
    sig : ℕ → ℕ → Parameters → Bool → Option Ty → Sig

  -- a name, a question mark behind it or not, a type or none
  pub data Parameter : Type 0 where
    parameter : ℕ → ℕ → Bytes → Bool → Option Ty → Parameter

  pub data Parameters : Type 0 where
    no_parameter : Parameters
    more_parameter : Parameters → Parameter → Parameters

  -- what stands behind `=>`: a block or an expression
  pub data ArrowBody : Type 0 where
    arrow_block : Block → ArrowBody
    arrow_value : Ex → ArrowBody

  -- statements in braces
  pub data Block : Type 0 where
    block : ℕ → ℕ → Stmts → Block

  pub data Stmts : Type 0 where
    no_stmt : Stmts
    more_stmt : Stmts → Stmt → Stmts

  -- a statement: where it begins and ends, and its form
  pub data Stmt : Type 0 where
    stmt : ℕ → ℕ → StmtForm → Stmt

  -- the forms of statements; `does` is a simple one and its semicolon
  pub data StmtForm : Type 0 where
    declares : Declaration → StmtForm
    function_stmt : Function → StmtForm
    does : Simple → StmtForm
    branches : Branches → Else → StmtForm
    loop : Ex → Body → StmtForm
    nested : Block → StmtForm

  -- `const` or `let`, a name, a type or none, a value
  pub data Declaration : Type 0 where
    declaration : ℕ → ℕ → Binder → Bytes → Option Ty → Ex → Declaration

  -- a simple statement without its semicolon: where it begins and ends, and its form
  pub data Simple : Type 0 where
    simple : ℕ → ℕ → SimpleForm → Simple

  -- the forms of simple statements
  pub data SimpleForm : Type 0 where
    return_bare : SimpleForm
    return_value : Ex → SimpleForm
    throw_value : Ex → SimpleForm
    break_loop : SimpleForm
    continue_loop : SimpleForm
    assign : Ex → Ex → SimpleForm
    evaluate : Ex → SimpleForm

  -- an arm of an `if`, or a loop's body: a block, or a simple statement and its semicolon
  pub data Body : Type 0 where
    block_body : Block → Body
    simple_body : Simple → Body

  -- `if (e) body`
  pub data Branch : Type 0 where
    branch : ℕ → ℕ → Ex → Body → Branch

  -- each but the first stands behind `else`
  pub data Branches : Type 0 where
    no_branch : Branches
    more_branch : Branches → Branch → Branches

  -- the last arm of an `if`, behind `else`, or none
  pub data Else : Type 0 where
    no_else : Else
    else_body : Body → Else

-- whether each list has one
abbrev pub has_exs : Exs → Bool
has_exs no_ex = false
has_exs (more_ex es e) = true

abbrev pub has_links : Links → Bool
has_links no_link = false
has_links (more_link ls l) = true

abbrev pub has_operands : Operands → Bool
has_operands no_operand = false
has_operands (more_operand os o) = true

abbrev pub has_fields : Fields → Bool
has_fields no_field = false
has_fields (more_field fs f) = true

abbrev pub has_arms : Arms → Bool
has_arms no_arm = false
has_arms (more_arm hs a) = true

abbrev pub has_parameters : Parameters → Bool
has_parameters no_parameter = false
has_parameters (more_parameter ps p) = true

abbrev pub has_branches : Branches → Bool
has_branches no_branch = false
has_branches (more_branch bs b) = true

abbrev pub has_prefixes : Prefixes → Bool
has_prefixes no_prefix = false
has_prefixes (more_prefix ps p x) = true

-- how tight a level binds
abbrev pub rank : Level → ℕ
rank nullish_level = 1
rank or_level = 2
rank and_level = 3
rank equal_level = 4
rank relation_level = 5
rank sum_level = 6
rank product_level = 7

-- the least rank of what stands in a chain of a level: between `??` neither `||` nor `&&`
abbrev pub operand_rank : Level → ℕ
operand_rank nullish_level = 4
operand_rank or_level = 3
operand_rank and_level = 4
operand_rank equal_level = 5
operand_rank relation_level = 6
operand_rank sum_level = 7
operand_rank product_level = 8

-- how tight an expression behind prefixes binds
abbrev pub prefixed_rank : ℕ
prefixed_rank = 8

-- how tight an expression with links behind it binds
abbrev pub postfixed_rank : ℕ
postfixed_rank = 9

-- how tight what stands alone binds
abbrev pub primary_rank : ℕ
primary_rank = 10

-- how tight a form binds: an arrow and a conditional least
abbrev pub form_rank : ExForm → ℕ
form_rank (cond hs e) = 0
form_rank (arrow s b) = 0
form_rank (chain p e os) = rank p
form_rank (prefixed ps e) = prefixed_rank
form_rank (postfixed e ls) = postfixed_rank
form_rank x = primary_rank

-- how tight an expression binds
abbrev pub ex_rank : Ex → ℕ
ex_rank (ex f t x) = form_rank x

-- the level of the chains in which an operator stands
abbrev pub level_of : Operator → Level
level_of nullish = nullish_level
level_of or = or_level
level_of and = and_level
level_of strict_equal = equal_level
level_of strict_not_equal = equal_level
level_of loose_equal = equal_level
level_of loose_not_equal = equal_level
level_of less = relation_level
level_of greater = relation_level
level_of less_or_equal = relation_level
level_of greater_or_equal = relation_level
level_of add = sum_level
level_of subtract = sum_level
level_of multiply = product_level
level_of divide = product_level
level_of remainder = product_level

-- whether it is a conditional
abbrev pub is_cond : Ex → Bool
is_cond (ex f t (cond hs e)) = true
is_cond (ex f t x) = false

-- a link that may end the target of an assignment
abbrev pub is_property : Links → Bool
is_property no_link = false
is_property (more_link ls (link f t (member n))) = true
is_property (more_link ls (link f t (index e))) = true
is_property (more_link ls (link f t (call es c))) = false

-- what may be assigned to
abbrev pub is_target : Ex → Bool
is_target (ex f t (variable n)) = true
is_target (ex f t (postfixed e ls)) = is_property ls
is_target (ex f t x) = false
