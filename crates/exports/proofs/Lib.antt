mod Rows
mod Chosen
