pub mod Cursors
