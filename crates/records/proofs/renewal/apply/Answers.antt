-- `records::renewal::apply` meets its contract: by cases. No axiom.
use Rattle.octets.proofs.Vocabulary.{◌∙◌}
use Rattle.records.specs.Device.{awake, with_endpoints}
use Rattle.records.specs.Image.{bytes_of_four, image_of}
use Rattle.records.specs.Change.{with_setting}
use Rattle.records.proofs.Putting.{put_on, setting-sixteen, toggles-put}
use Rattle.records.proofs.renewal.apply.Goals as goal

pub returns-in-Setting : goal.returns-in-Setting
returns-in-Setting c = λ d n e.
    let set = with_setting c.in-Setting.interface c.in-Setting.alternate d.alternates in
    rw c.in-Setting.is
    (c.put_endpoints.ensures (with_endpoints set d.halts d.toggles d) (setting-sixteen c.in-Setting.interface c.in-Setting.alternate d.alternates n) (c.put_setting.ensures d n e))

pub returns-in-Passed : goal.returns-in-Passed
unfolding image_of bytes_of_four
returns-in-Passed c = λ d n e.
    rw c.in-Passed.is (toggles-put (awake d) n _ (put_on 6 0 c.put-in-Passed.ensures e) (c.put_all.ensures ∙ c.to_le_bytes.ensures))
