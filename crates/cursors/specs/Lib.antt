-- The lent cursor.
pub mod Cursors
