-- The machine's states as words and memory keep the laws of a grid.
use Rattle.grid_law.specs.Codec.{CodecLaws}
use Rattle.machine_cells.specs.Codec.{rp3_codec}
use Rattle.machine_cells.specs.laws.Words.{the_codec_laws}

pub rp3_codec_laws : CodecLaws rp3_codec
rp3_codec_laws = the_codec_laws
