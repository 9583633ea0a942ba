-- APP packets as C gets them: the name stands at 8, the data at 12.
use Rattle.std.specs.Prelude.{◌-◌}
use Rattle.rfc3550.specs.Answer.{Answer}
use Rattle.app.specs.declared.App.{App}
use Rattle.rtcp.specs.declared.read_app.RtcpApp.{RtcpApp}
use Rattle.rtcp.specs.Result.{number_of, first_of, second_of, field}

abbrev pub app_result : Answer App → RtcpApp
app_result a =
    record {
      number = number_of a;
      first = first_of a;
      second = second_of a;
      subtype = field (λ x. x.subtype) a;
      ssrc = field (λ x. x.ssrc) a;
      name = field (λ x. 8) a;
      name_len = field (λ x. 4) a;
      «data» = field (λ x. 12) a;
      data_len = field (λ x. x.body - 12) a;
      body = field (λ x. x.body) a;
      padding_len = field (λ x. x.padding_len) a;
    }
