pub mod ReadColumns
pub mod RowKeys
pub mod PlacedRows
pub mod LaidRows
