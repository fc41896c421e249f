-- What the forms, the modes and what waits for a type stand for in the machine.
use Rattle.std.specs.Option.{option_map}
use Rattle.js_grammar.specs.Items as g
use Rattle.type_tree.specs.View.{type_view, key_view}
use Rattle.code_tree.specs.Flat.{prefixes_view, level_view, operator_view, binder_view, parameters_view, signature_view}
use Rattle.code_tree.specs.View.{expr_view, exprs_view, links_view, operands_view, fields_view, arms_view, statements_view, branches_view, simple_view}
use Rattle.js_tree.specs.View.{importeds_view, exporteds_view, import_form_view, export_list_view}
use Rattle.code_law.specs.Frames as machine
use Rattle.code_state.specs.declared.frames.FunctionKind.{FunctionKind}
use Rattle.code_state.specs.declared.frames.FunctionKind.TheVariants as kind
use Rattle.code_state.specs.declared.frames.Wrap.{Wrap}
use Rattle.code_state.specs.declared.frames.Wrap.TheVariants as wrap
use Rattle.code_state.specs.declared.frames.Row.{Row}
use Rattle.code_state.specs.declared.frames.Row.TheVariants as row
use Rattle.code_state.specs.declared.frames.Verb.{Verb}
use Rattle.code_state.specs.declared.frames.Verb.TheVariants as verb
use Rattle.code_state.specs.declared.frames.OperatorFrame.{OperatorFrame}
use Rattle.code_state.specs.declared.frames.OperatorFrame.TheVariants as operator
use Rattle.code_state.specs.declared.frames.TailFrame.{TailFrame}
use Rattle.code_state.specs.declared.frames.TailFrame.TheVariants as tail
use Rattle.code_state.specs.declared.frames.InnerFrame.{InnerFrame}
use Rattle.code_state.specs.declared.frames.InnerFrame.TheVariants as inner
use Rattle.code_state.specs.declared.frames.ValueFrame.{ValueFrame}
use Rattle.code_state.specs.declared.frames.ValueFrame.TheVariants as value_frame
use Rattle.code_state.specs.declared.frames.BodyFrame.{BodyFrame}
use Rattle.code_state.specs.declared.frames.BodyFrame.TheVariants as body
use Rattle.code_state.specs.declared.frames.Frame.{Frame}
use Rattle.code_state.specs.declared.frames.Frame.TheVariants as frame
use Rattle.code_state.specs.declared.modes.Owner.{Owner}
use Rattle.code_state.specs.declared.modes.Owner.TheVariants as owner
use Rattle.code_state.specs.declared.modes.ValueMode.{ValueMode}
use Rattle.code_state.specs.declared.modes.ValueMode.TheVariants as value
use Rattle.code_state.specs.declared.modes.GroupMode.{GroupMode}
use Rattle.code_state.specs.declared.modes.GroupMode.TheVariants as group
use Rattle.code_state.specs.declared.modes.HeadMode.{HeadMode}
use Rattle.code_state.specs.declared.modes.HeadMode.TheVariants as head
use Rattle.code_state.specs.declared.modes.StatementMode.{StatementMode}
use Rattle.code_state.specs.declared.modes.StatementMode.TheVariants as statement
use Rattle.code_state.specs.declared.modes.Mode.{Mode}
use Rattle.code_state.specs.declared.modes.Mode.TheVariants as mode
use Rattle.code_state.specs.declared.modes.Waiting.{Waiting}
use Rattle.code_state.specs.declared.modes.Waiting.TheVariants as waiting
use Rattle.code_state.specs.declared.items.Opening.{Opening}
use Rattle.code_state.specs.declared.items.Opening.TheVariants as opening
use Rattle.code_state.specs.declared.items.Names.{Names}
use Rattle.code_state.specs.declared.items.Names.TheVariants as names
use Rattle.code_state.specs.declared.items.Listing.{Listing}
use Rattle.code_state.specs.declared.items.AliasHead.{AliasHead}
use Rattle.code_state.specs.declared.items.Ending.{Ending}
use Rattle.code_state.specs.declared.items.Ending.TheVariants as ending
use Rattle.code_state.specs.declared.items.ImportMode.{ImportMode}
use Rattle.code_state.specs.declared.items.ImportMode.TheVariants as import
use Rattle.code_state.specs.declared.items.NamesMode.{NamesMode}
use Rattle.code_state.specs.declared.items.NamesMode.TheVariants as listed
use Rattle.code_state.specs.declared.items.ExportMode.{ExportMode}
use Rattle.code_state.specs.declared.items.ExportMode.TheVariants as export
use Rattle.code_state.specs.declared.items.ItemMode.{ItemMode}
use Rattle.code_state.specs.declared.items.ItemMode.TheVariants as item

abbrev pub kind_view : FunctionKind → machine.FunctionKind
kind_view kind.Value = machine.is_value
kind_view kind.Statement = machine.is_statement
kind_view kind.Default = machine.is_default

abbrev pub wrap_view : Wrap → machine.Wrap
wrap_view wrap.Plain = machine.plain_item
wrap_view wrap.Exported = machine.exported_item
wrap_view wrap.Default = machine.default_item

abbrev pub row_view : Row → machine.Row
row_view (row.Array s) = machine.array_row s
row_view (row.Call b s) = machine.call_row (expr_view b.base) (links_view b.links) s

abbrev pub verb_view : Verb → machine.Verb
verb_view verb.Return = machine.returns
verb_view verb.Throw = machine.throws
verb_view (verb.Assign e) = machine.assigns (expr_view e)
verb_view verb.Evaluate = machine.evaluates

abbrev pub owner_view : Owner → machine.Owner
owner_view owner.Arrow = machine.of_arrow
owner_view (owner.Function h) = machine.of_function (kind_view h.kind) h.first h.name

-- frames
abbrev pub operator_frame_view : OperatorFrame → machine.Frame
operator_frame_view (operator.Prefix s ps) = machine.in_prefix s (prefixes_view ps)
operator_frame_view (operator.Chain c d o) = machine.in_chain c.first (level_view c.level) (expr_view c.left) (operands_view c.operands) d (operator_view o)

abbrev pub tail_view : TailFrame → machine.Frame
tail_view (tail.Last s hs) = machine.in_last s (arms_view hs)
tail_view (tail.Arrow g) = machine.in_arrow (signature_view g)

abbrev pub inner_view : InnerFrame → machine.Frame
inner_view (inner.Branch s hs e) = machine.in_branch s (arms_view hs) (expr_view e)
inner_view (inner.Paren s) = machine.in_parens s
inner_view (inner.Row r es) = machine.in_row (row_view r) (exprs_view es)
inner_view (inner.Index b s) = machine.in_index (expr_view b.base) (links_view b.links) s
inner_view (inner.Field s fs y) = machine.in_field s (fields_view fs) (key_view y)

abbrev pub value_frame_view : ValueFrame → machine.Frame
value_frame_view (value_frame.Simple s v) = machine.in_simple s (verb_view v)
value_frame_view (value_frame.Declaration d t) = machine.in_declaration d.first (binder_view d.binder) d.name (option_map type_view t)
value_frame_view (value_frame.IfTest b a) = machine.in_if_test b.first (branches_view b.branches) a
value_frame_view (value_frame.LoopTest s) = machine.in_loop_test s

abbrev pub body_frame_view : BodyFrame → machine.Frame
body_frame_view (body.Function h g) = machine.in_function (kind_view h.kind) h.first h.name (signature_view g)
body_frame_view (body.Arrow g) = machine.in_body (signature_view g)
body_frame_view (body.Block b) = machine.in_block b.first (statements_view b.statements)
body_frame_view (body.If b a e) = machine.in_if b.first (branches_view b.branches) a (expr_view e)
body_frame_view (body.Else b) = machine.in_else b.first (branches_view b.branches)
body_frame_view (body.Loop s e) = machine.in_loop s (expr_view e)

abbrev pub frame_view : Frame → machine.Frame
frame_view (frame.Operator f) = operator_frame_view f
frame_view (frame.Tail f) = tail_view f
frame_view (frame.Inner f) = inner_view f
frame_view (frame.Value f) = value_frame_view f
frame_view (frame.Body f) = body_frame_view f

-- modes
abbrev pub value_mode_view : ValueMode → machine.Mode
value_mode_view value.Want = machine.want
value_mode_view (value.Links b) = machine.after_links (expr_view b.base) (links_view b.links)
value_mode_view (value.Dot b d) = machine.after_dot (expr_view b.base) (links_view b.links) d
value_mode_view (value.RowStart r es) = machine.row_start (row_view r) (exprs_view es)
value_mode_view (value.Settled e) = machine.settled (expr_view e)

abbrev pub group_view : GroupMode → machine.Mode
group_view (group.FieldStart o) = machine.fields_start o.first (fields_view o.fields)
group_view (group.FieldWord o a n) = machine.after_word o.first (fields_view o.fields) a n
group_view (group.FieldKey o y) = machine.after_key o.first (fields_view o.fields) (key_view y)
group_view (group.ParenStart s) = machine.paren_start s
group_view (group.ParenWord w) = machine.paren_word w.first w.start w.name
group_view (group.ParenMark w p) = machine.paren_mark w.first w.start w.name p

abbrev pub head_view : HeadMode → machine.Mode
head_view (head.Function q s) = machine.function_start (kind_view q) s
head_view (head.Open o) = machine.parameters_open (owner_view o)
head_view (head.Start o) = machine.parameter_start (owner_view o.owner) o.first (parameters_view o.parameters)
head_view (head.Word n) = machine.parameter_word (owner_view n.open.owner) n.open.first (parameters_view n.open.parameters) n.start n.name
head_view (head.Mark n) = machine.parameter_mark (owner_view n.open.owner) n.open.first (parameters_view n.open.parameters) n.start n.name
head_view (head.End o c) = machine.parameters_end (owner_view o.owner) o.first (parameters_view o.parameters) c
head_view (head.Arrow g) = machine.arrow_start (signature_view g)

abbrev pub statement_mode_view : StatementMode → machine.Mode
statement_mode_view (statement.Start b) = machine.statements_start b.first (statements_view b.statements)
statement_mode_view (statement.Binder s w) = machine.after_binder s (binder_view w)
statement_mode_view (statement.Declared d) = machine.after_declared d.first (binder_view d.binder) d.name
statement_mode_view (statement.Return s) = machine.after_return s
statement_mode_view (statement.Simple y) = machine.after_simple (simple_view y)
statement_mode_view (statement.If b a) = machine.after_if b.first (branches_view b.branches) a
statement_mode_view (statement.While s) = machine.after_while s
statement_mode_view statement.Body = machine.want_body
statement_mode_view (statement.Branch b) = machine.after_branch b.first (branches_view b.branches)
statement_mode_view (statement.Else b) = machine.after_else b.first (branches_view b.branches)

abbrev pub mode_view : Mode → machine.Mode
mode_view (mode.Value m) = value_mode_view m
mode_view (mode.Group m) = group_view m
mode_view (mode.Head m) = head_view m
mode_view (mode.Statement m) = statement_mode_view m

abbrev pub waiting_view : Waiting → machine.Waiting
waiting_view (waiting.Parameter n o) = machine.parameter_type (owner_view n.open.owner) n.open.first (parameters_view n.open.parameters) n.start n.name o
waiting_view (waiting.Output o c) = machine.result_type (owner_view o.owner) o.first (parameters_view o.parameters) c
waiting_view (waiting.Declared d) = machine.declared_type d.first (binder_view d.binder) d.name
waiting_view (waiting.Cast c d) = machine.cast_type c.first (expr_view c.left) (operands_view c.operands) d

-- what stands in an item, behind the items before it
abbrev pub alias_view : g.Items → AliasHead → machine.Waiting
alias_view is h = machine.alias_type h.first (wrap_view h.wrap) is h.start h.name

abbrev pub opening_view : Opening → machine.Opening
opening_view opening.Names = machine.opens_names
opening_view (opening.Both n) = machine.opens_both n
opening_view opening.Types = machine.opens_types
opening_view (opening.Exports o) = machine.opens_exports o

abbrev pub names_view : Names → machine.Names
names_view (names.Imported ns) = machine.importing (importeds_view ns)
names_view (names.Exported ns) = machine.exporting (exporteds_view ns)

abbrev pub listing_view : g.Items → Listing → machine.Listing
listing_view is q = machine.listing q.first is (opening_view q.opening) q.start (names_view q.names)

abbrev pub ending_view : Ending → g.ItemForm
ending_view (ending.Import m s) = g.imports (import_form_view m) s
ending_view (ending.Names o l) = g.exports (g.export_names o (export_list_view l))
ending_view (ending.From o l s) = g.exports (g.export_from o (export_list_view l) s)

abbrev pub import_mode_view : g.Items → ImportMode → machine.Mode
import_mode_view is (import.Start a) = machine.after_import a is
import_mode_view is (import.Word a n) = machine.import_word a is n
import_mode_view is (import.Comma a n) = machine.import_comma a is n
import_mode_view is (import.List a m) = machine.after_list a is (import_form_view m)
import_mode_view is (import.From a m) = machine.after_from a is (import_form_view m)

abbrev pub names_mode_view : g.Items → NamesMode → machine.Mode
names_mode_view is (listed.Start q) = machine.names_start (listing_view is q)
names_mode_view is (listed.Name q p n) = machine.after_name (listing_view is q) p n
names_mode_view is (listed.As q p n) = machine.after_as (listing_view is q) p n
names_mode_view is (listed.Pair q) = machine.after_pair (listing_view is q)

abbrev pub export_mode_view : g.Items → ExportMode → machine.Mode
export_mode_view is (export.Start a) = machine.after_export a is
export_mode_view is (export.Type a p) = machine.export_type a is p
export_mode_view is (export.List a o l) = machine.after_exports a is o (export_list_view l)
export_mode_view is (export.From a o l) = machine.exports_from a is o (export_list_view l)
export_mode_view is (export.Default a) = machine.after_default a is

abbrev pub item_mode_view : g.Items → ItemMode → machine.Mode
item_mode_view is item.Start = machine.items_start is
item_mode_view is (item.Type a) = machine.after_type_word a is
item_mode_view is (item.Alias h) = machine.after_alias h.first (wrap_view h.wrap) is h.start h.name
item_mode_view is (item.Import m) = import_mode_view is m
item_mode_view is (item.Names m) = names_mode_view is m
item_mode_view is (item.Export m) = export_mode_view is m
item_mode_view is (item.End a e) = machine.item_end a is (ending_view e)
