-- What the classes of words and marks stand for in the machine.
use Rattle.code_tree.specs.Flat.{operator_view, binder_view}
use Rattle.code_law.specs.Expressions as v
use Rattle.code_law.specs.Statements as s
use Rattle.code_law.specs.Ladder as ladder
use Rattle.code_words.specs.declared.words.ValueWord.{ValueWord}
use Rattle.code_words.specs.declared.words.ValueWord.TheVariants as value
use Rattle.code_words.specs.declared.words.StatementWord.{StatementWord}
use Rattle.code_words.specs.declared.words.StatementWord.TheVariants as statement
use Rattle.code_words.specs.declared.behind.Joint.{Joint}
use Rattle.code_words.specs.declared.behind.Joint.TheVariants as joint
use Rattle.code_words.specs.declared.behind.Behind.{Behind}
use Rattle.code_words.specs.declared.behind.Behind.TheVariants as behind

abbrev pub value_word_view : ValueWord → v.ValueWord
value_word_view value.Variable = v.variable_word
value_word_view value.Null = v.null_word
value_word_view (value.Truth b) = v.truth_of b
value_word_view value.TypeOf = v.kind_word
value_word_view value.Function = v.function_word
value_word_view value.Other = v.other_word

abbrev pub statement_word_view : StatementWord → s.StatementWord
statement_word_view (statement.Binds w) = s.binds (binder_view w)
statement_word_view statement.Function = s.begins_function
statement_word_view statement.If = s.if_word
statement_word_view statement.Else = s.else_word
statement_word_view statement.While = s.while_word
statement_word_view statement.Return = s.return_word
statement_word_view statement.Throw = s.throw_word
statement_word_view statement.Break = s.break_word
statement_word_view statement.Continue = s.continue_word
statement_word_view statement.Import = s.begins_import
statement_word_view statement.Export = s.begins_export
statement_word_view statement.Plain = s.plain_word

abbrev pub joint_view : Joint → ladder.Joint
joint_view (joint.Applies o) = ladder.applies (operator_view o)
joint_view joint.Casts = ladder.casts

abbrev pub behind_view : Behind → ladder.Turn
behind_view (behind.Joins j) = ladder.joins (joint_view j)
behind_view behind.Asks = ladder.asks
behind_view behind.Sticks = ladder.sticks
behind_view behind.Ends = ladder.ends
