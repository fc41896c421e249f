-- What the values of the code's trees stand for, where they are statements, a step at a time.
use Rattle.std.proofs.Common.{◌≡◌, ap, ◌∙◌, rules}
use Rattle.js_grammar.specs.Code.{declares, does, nested, no_else, else_body, block_body, simple_body}
use Rattle.code_tree.specs.View.{block_view, statement_form_view, declaration_view, simple_view, if_statement_view, else_view, while_statement_view, body_view}
use Rattle.code_tree.specs.declared.types.ExprForm.{the_lemmas}
use Rattle.code_tree.specs.declared.types.Block.{Block}
use Rattle.code_tree.specs.declared.types.Declaration.{Declaration}
use Rattle.code_tree.specs.declared.types.IfStatement.{IfStatement}
use Rattle.code_tree.specs.declared.types.WhileStatement.{WhileStatement}
use Rattle.code_tree.specs.declared.types.Simple.{Simple}
use Rattle.code_tree.specs.declared.types.StatementForm.{StatementForm}
use Rattle.code_tree.specs.declared.types.StatementForm as statement_form
use Rattle.code_tree.specs.declared.types.Body.{Body}
use Rattle.code_tree.specs.declared.types.Body as body
use Rattle.code_tree.specs.declared.types.Else.{Else}
use Rattle.code_tree.specs.declared.types.Else as last_else

pub statement_form_declaration : (x : StatementForm) (d : Declaration) → x ≡ statement_form.Declaration d → statement_form_view x ≡ declares (declaration_view d)
unfolding statement_form_view declaration_view
statement_form_declaration x d is = ap statement_form_view is ∙ search (rules, the_lemmas)

pub statement_form_simple : (x : StatementForm) (s : Simple) → x ≡ statement_form.Simple s → statement_form_view x ≡ does (simple_view s)
unfolding statement_form_view simple_view
statement_form_simple x s is = ap statement_form_view is ∙ search (rules, the_lemmas)

pub statement_form_if : (x : StatementForm) (s : IfStatement) → x ≡ statement_form.If s → statement_form_view x ≡ if_statement_view s
unfolding statement_form_view if_statement_view
statement_form_if x s is = ap statement_form_view is ∙ search (rules, the_lemmas)

pub statement_form_while : (x : StatementForm) (s : WhileStatement) → x ≡ statement_form.While s → statement_form_view x ≡ while_statement_view s
unfolding statement_form_view while_statement_view
statement_form_while x s is = ap statement_form_view is ∙ search (rules, the_lemmas)

pub statement_form_block : (x : StatementForm) (b : Block) → x ≡ statement_form.Block b → statement_form_view x ≡ nested (block_view b)
unfolding statement_form_view block_view
statement_form_block x b is = ap statement_form_view is ∙ search (rules, the_lemmas)

pub last_else_nothing : (x : Else) → x ≡ last_else.Nothing → else_view x ≡ no_else
unfolding else_view
last_else_nothing x is = ap else_view is ∙ search (rules, the_lemmas)

pub last_else_body : (x : Else) (b : Body) → x ≡ last_else.Body b → else_view x ≡ else_body (body_view b)
unfolding else_view body_view
last_else_body x b is = ap else_view is ∙ search (rules, the_lemmas)

pub body_block : (x : Body) (b : Block) → x ≡ body.Block b → body_view x ≡ block_body (block_view b)
unfolding body_view block_view
body_block x b is = ap body_view is ∙ search (rules, the_lemmas)

pub body_simple : (x : Body) (s : Simple) → x ≡ body.Simple s → body_view x ≡ simple_body (simple_view s)
unfolding body_view simple_view
body_simple x s is = ap body_view is ∙ search (rules, the_lemmas)
