-- `records::renewal::put_setting` meets its contract: a byte of the settings. No axiom.
use Rattle.records.proofs.Putting.{setting-put}
use Rattle.records.proofs.renewal.put_setting.Goals as goal

pub returns-then-interface-lt16 : goal.returns-then-interface-lt16
returns-then-interface-lt16 c = λ d n e. rw (c.put.ensures, e) (setting-put d n _ _ c.if-interface-lt16.true)
