use Rattle.app.proofs.Writes.{app_laid}
use Rattle.app.proofs.write.AppBuilderRtcpPacketWriter.write_into_unchecked.Goals as goal

pub returns : goal.returns
returns c = let a = c.args in
    app_laid a.self.subtype a.self.ssrc a.self.name.now a.self.«data».now a.self.padding a.size a.buf.now _ _ _ _ _ _ c.requires c.write_header_unchecked.ensures c.write_u32_unchecked.ensures c.write_bytes_unchecked.ensures c.write_zeros_unchecked.ensures c.write_bytes_unchecked-2.ensures c.write_padding_unchecked.ensures
