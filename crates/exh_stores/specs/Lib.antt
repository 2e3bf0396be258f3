pub use Rattle.exh_codec.specs.Block
pub use Rattle.exh_codec.specs.PageImage
pub mod Digests
pub mod PageStore
