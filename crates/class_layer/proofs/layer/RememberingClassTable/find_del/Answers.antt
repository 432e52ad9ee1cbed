use Rattle.std.proofs.Common.{sym, ap, ◌∙◌}
use Rattle.classes.specs.Rows.{find_del}
use Rattle.class_layer.specs.Layer.{Layer}
use Rattle.class_layer.proofs.Looking.{found_right}
use Rattle.class_layer.proofs.layer.RememberingClassTable.find_del.Goals as goal

pub returns-in-Some-clause-value : goal.returns-in-Some-clause-value
returns-in-Some-clause-value g c =
    found_right _ _ _ _ c.self.invariant (sym c.look_up.ensures ∙ c.in-Some.is)
    ∙ ap (λ (layer : Layer _). find_del (g.T.ClassTable.rows layer.below) c.args.class) c.self.view_is
