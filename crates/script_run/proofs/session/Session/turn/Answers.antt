use Rattle.std.proofs.lemmas.Result.{IfOk-weaker}
use Rattle.script_run.specs.Session.{standing_in}
use Rattle.script_run.proofs.Sessions.{turned_blank, turned_edit, turned_touch, turned_delete, turned_recheck, turned_ask}
use Rattle.script_run.proofs.session.Session.turn.Goals as goal

pub returns-in-Blank-clause-turned : goal.returns-in-Blank-clause-turned
returns-in-Blank-clause-turned g c = turned_blank c.args.self.now.waiting.capacity c.args.line (standing_in c.args.self.now) _ _ (g.met.F.Folder.bounded c.args.folder.now) c.in-Blank.is c.new.ensures.items

pub returns-in-Edit-clause-turned : goal.returns-in-Edit-clause-turned
returns-in-Edit-clause-turned g c =
    IfOk-weaker c.edit.result _ _ (λ printed edited. turned_edit c.args.self.now.waiting.capacity c.args.line c.in-Edit.path c.in-Edit.text (standing_in c.args.self.now) (standing_in c.edit.new.self) printed.items _ (g.met.F.Folder.bounded c.args.folder.now) c.in-Edit.is edited) c.edit.ensures.edited

pub returns-in-Touch-clause-turned : goal.returns-in-Touch-clause-turned
returns-in-Touch-clause-turned g c =
    IfOk-weaker c.touch.result _ _ (λ printed edited. turned_touch c.args.self.now.waiting.capacity c.args.line c.in-Touch.path (standing_in c.args.self.now) (standing_in c.touch.new.self) printed.items _ (g.met.F.Folder.bounded c.args.folder.now) c.in-Touch.is edited) c.touch.ensures.touched

pub returns-in-Delete-clause-turned : goal.returns-in-Delete-clause-turned
returns-in-Delete-clause-turned g c =
    IfOk-weaker c.delete.result _ _ (λ printed deleted. turned_delete c.args.self.now.waiting.capacity c.args.line c.in-Delete.path (standing_in c.args.self.now) (standing_in c.delete.new.self) printed.items _ (g.met.F.Folder.bounded c.args.folder.now) c.in-Delete.is deleted) c.delete.ensures.deleted

pub returns-in-Recheck-clause-turned : goal.returns-in-Recheck-clause-turned
returns-in-Recheck-clause-turned g c =
    IfOk-weaker c.recheck.result _ _ (λ printed rechecked. turned_recheck c.args.self.now.waiting.capacity c.args.line c.in-Recheck.stop c.in-Recheck.asks c.as_slice.result.now (standing_in c.args.self.now) (standing_in c.recheck.new.self) printed.items _ _ c.in-Recheck.is c.as_slice.ensures rechecked) c.recheck.ensures.rechecked

pub returns-in-Ask-clause-turned : goal.returns-in-Ask-clause-turned
returns-in-Ask-clause-turned g c =
    IfOk-weaker c.ask.result _ _ (λ printed asked. turned_ask c.args.self.now.waiting.capacity c.args.line c.in-Ask.ask (standing_in c.args.self.now) (standing_in c.ask.new.self) printed.items _ (g.met.F.Folder.bounded c.args.folder.now) c.in-Ask.is asked) c.ask.ensures.asked
