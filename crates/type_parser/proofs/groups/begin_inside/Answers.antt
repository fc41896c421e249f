use Rattle.std.proofs.Common.{ap}
use Rattle.js_grammar.specs.Machine.{want_step}
use Rattle.type_parser.proofs.Given.{ok_given, pushed}
use Rattle.type_parser.proofs.groups.begin_inside.Goals as goal

pub returns : goal.returns
returns c =
    ok_given c.begin_type.result c.push.new.self.items (λ k. want_step c.args.at k c.args.token.now) _
    (ap (λ k. want_step c.args.at k c.args.token.now) (pushed c.push.new.self.items c.args.stack.now.items c.args.frame c.in_ok-push.ensures.items)) c.begin_type.ensures
