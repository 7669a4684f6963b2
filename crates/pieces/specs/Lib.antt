pub mod PieceKind
pub mod Pieces
pub mod Partition
