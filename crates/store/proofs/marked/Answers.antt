-- Where the pass met no mark, the marks go together.
use Rattle.std.proofs.Common.{◌∙◌, ap}
use Rattle.store.specs.Opened.{opened_as}
use Rattle.store.proofs.OpenLaws.{open_plain}
use Rattle.store.proofs.marked.Goals as goal
use Rattle.std.specs.Prelude.{Ok}

pub together-requires : goal.together-requires
together-requires c = c.requires.0 c.in-Marked.h (ap opened_as (c.in_ok-h.was ∙ ap Ok c.in-Marked.is))

pub returns-in-Plain : goal.returns-in-Plain
returns-in-Plain c = open_plain c.args.store.now (c.in_ok-h.was ∙ ap Ok c.in-Plain.is) c.requires.0 c.requires.1
