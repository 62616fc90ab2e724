mod Arms
mod Tests
