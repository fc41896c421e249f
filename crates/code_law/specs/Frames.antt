-- What has been read of a module so far: a stack of open forms and a mode.
use Rattle.std.specs.Prelude.{ℕ, Bool, List, [], ◌∷◌, Option}
use Rattle.js_grammar.specs.Words.{Bytes}
use Rattle.js_grammar.specs.Types.{Key, key, Ty}
use Rattle.js_grammar.specs.Machine as ty
use Rattle.js_grammar.specs.Code.{Prefixes, Level, Operator, Binder, Ex, ex, Exs, Links, Operands, Fields, Arms, Function, function, Sig, sig, Parameters, Block, block, Stmts, Simple, simple, Branches}
use Rattle.js_grammar.specs.CodeFits.{Context, inside, looping, body_context}
use Rattle.js_grammar.specs.Items.{Importeds, Exporteds, ExportList, ImportForm, ItemForm, Items, top_context}

-- a list in brackets, with the place of the first: the elements of an array, or the arguments of a call, behind an expression and its links
pub data Row : Type 0 where
  array_row : ℕ → Row
  call_row : Ex → Links → ℕ → Row

-- a function as an expression, as a statement or an item, and behind `default`
pub data FunctionKind : Type 0 where
  is_value : FunctionKind
  is_statement : FunctionKind
  is_default : FunctionKind

-- what stands before an item: nothing, `export`, or `export default`
pub data Wrap : Type 0 where
  plain_item : Wrap
  exported_item : Wrap
  default_item : Wrap

-- what stands before a list of names in braces
pub data Opening : Type 0 where
  opens_names : Opening
  opens_both : Bytes → Opening
  opens_types : Opening
  opens_exports : Bool → Opening

-- the names of such a list so far
pub data Names : Type 0 where
  importing : Importeds → Names
  exporting : Exporteds → Names

-- where the item begins, the items before it, what stands before the list, and the place of its brace
pub data Listing : Type 0 where
  listing : ℕ → Items → Opening → ℕ → Names → Listing

-- whose parameters they are: an arrow's, or a function's, with its place and its name
pub data Owner : Type 0 where
  of_arrow : Owner
  of_function : FunctionKind → ℕ → Option Bytes → Owner

-- what is done with an expression that is all of a simple statement, or the right side of an assignment
pub data Verb : Type 0 where
  returns : Verb
  throws : Verb
  assigns : Ex → Verb
  evaluates : Verb

-- a type that is read: of a parameter, behind the place of `(`, the parameters before it, its place, its name and a question mark
-- or not; of a result; of a declaration; of an alias, with its item's place, the items before it, its place and its name; or
-- behind `as`, in a chain that began at a place, with its first expression, its operands and the place of `as`
pub data Waiting : Type 0 where
  parameter_type : Owner → ℕ → Parameters → ℕ → Bytes → Bool → Waiting
  result_type : Owner → ℕ → Parameters → Bool → Waiting
  declared_type : ℕ → Binder → Bytes → Waiting
  alias_type : ℕ → Wrap → Items → ℕ → Bytes → Waiting
  cast_type : ℕ → Ex → Operands → ℕ → Waiting

-- A form that waits for an expression, a body or a statement, with the place where it begins.
pub data Frame : Type 0 where
  in_prefix : ℕ → Prefixes → Frame
  -- the operands so far, and the operator behind them at its place
  in_chain : ℕ → Level → Ex → Operands → ℕ → Operator → Frame
  -- behind the arms of a conditional, a further test or the last branch; behind a test and `?`, a branch
  in_last : ℕ → Arms → Frame
  in_branch : ℕ → Arms → Ex → Frame
  in_parens : ℕ → Frame
  in_row : Row → Exs → Frame
  in_index : Ex → Links → ℕ → Frame
  in_field : ℕ → Fields → Key → Frame
  -- the value of an arrow, and its block
  in_arrow : Sig → Frame
  in_body : Sig → Frame
  in_simple : ℕ → Verb → Frame
  in_declaration : ℕ → Binder → Bytes → Option Ty → Frame
  -- an `if` at the second place, behind the branches of a statement that began at the first
  in_if_test : ℕ → Branches → ℕ → Frame
  in_loop_test : ℕ → Frame
  in_if : ℕ → Branches → ℕ → Ex → Frame
  in_else : ℕ → Branches → Frame
  in_loop : ℕ → Ex → Frame
  in_function : FunctionKind → ℕ → Option Bytes → Sig → Frame
  in_block : ℕ → Stmts → Frame
  in_item : ℕ → Wrap → Items → Frame
  in_default : ℕ → Items → Frame

-- What may come next. A word behind `(` may be a parameter's or a variable, also with `?` behind it: the token behind it tells.
pub data Mode : Type 0 where
  want : Mode
  after_links : Ex → Links → Mode
  after_dot : Ex → Links → ℕ → Mode
  row_start : Row → Exs → Mode
  fields_start : ℕ → Fields → Mode
  after_word : ℕ → Fields → ℕ → Bytes → Mode
  after_key : ℕ → Fields → Key → Mode
  paren_start : ℕ → Mode
  paren_word : ℕ → ℕ → Bytes → Mode
  paren_mark : ℕ → ℕ → Bytes → ℕ → Mode
  function_start : FunctionKind → ℕ → Mode
  parameters_open : Owner → Mode
  parameter_start : Owner → ℕ → Parameters → Mode
  parameter_word : Owner → ℕ → Parameters → ℕ → Bytes → Mode
  parameter_mark : Owner → ℕ → Parameters → ℕ → Bytes → Mode
  parameters_end : Owner → ℕ → Parameters → Bool → Mode
  arrow_start : Sig → Mode
  -- an expression that no link follows
  settled : Ex → Mode
  statements_start : ℕ → Stmts → Mode
  after_binder : ℕ → Binder → Mode
  after_declared : ℕ → Binder → Bytes → Mode
  after_return : ℕ → Mode
  after_simple : Simple → Mode
  after_if : ℕ → Branches → ℕ → Mode
  after_while : ℕ → Mode
  want_body : Mode
  after_branch : ℕ → Branches → Mode
  after_else : ℕ → Branches → Mode
  items_start : Items → Mode
  -- behind `type` at a place, where an item begins
  after_type_word : ℕ → Items → Mode
  after_alias : ℕ → Wrap → Items → ℕ → Bytes → Mode
  after_import : ℕ → Items → Mode
  import_word : ℕ → Items → Bytes → Mode
  import_comma : ℕ → Items → Bytes → Mode
  names_start : Listing → Mode
  after_name : Listing → ℕ → Bytes → Mode
  after_as : Listing → ℕ → Bytes → Mode
  after_pair : Listing → Mode
  after_list : ℕ → Items → ImportForm → Mode
  after_from : ℕ → Items → ImportForm → Mode
  after_export : ℕ → Items → Mode
  export_type : ℕ → Items → ℕ → Mode
  after_exports : ℕ → Items → Bool → ExportList → Mode
  exports_from : ℕ → Items → Bool → ExportList → Mode
  after_default : ℕ → Items → Mode
  item_end : ℕ → Items → ItemForm → Mode
  typing : Waiting → ty.Stack → ty.Mode → Mode

-- the forms that are open, the innermost first
abbrev pub Stack : Type 0
Stack = List Frame

-- the token is no part of the form here; the token is read; the expression, or the items, ended before the token
pub data Step : Type 0 where
  fault : Step
  go : Stack → Mode → Step
  done : Ex → Step
  done_items : Items → Step

-- where each begins
abbrev pub start_ex : Ex → ℕ
start_ex (ex f t x) = f

abbrev pub start_sig : Sig → ℕ
start_sig (sig f t ps c r) = f

abbrev pub start_key : Key → ℕ
start_key (key f t y) = f

abbrev pub start_function : Function → ℕ
start_function (function f t n g b) = f

abbrev pub start_block : Block → ℕ
start_block (block f t ss) = f

abbrev pub start_simple : Simple → ℕ
start_simple (simple f t x) = f

-- where a statement stands under a stack
abbrev pub context : Stack → Context
context [] = top_context
context (in_function q s n g ∷ k) = body_context
context (in_body g ∷ k) = body_context
context (in_loop s e ∷ k) = looping (context k)
context (in_item a w is ∷ k) = top_context
context (f ∷ k) = context k

-- whether it is inside a function
abbrev pub within_function : Context → Bool
within_function (inside f l) = f

-- whether it is inside a loop of that function
abbrev pub within_loop : Context → Bool
within_loop (inside f l) = l
